use Rattle.std.proofs.Common.{◌≡◌, ◌≤◌, drop, true, false}
use Rattle.rc_text.specs.Headers.{header_from, further_on}
use Rattle.rc_text.proofs.header.header_of.Given as goal

abbrev pub invariant-loop-i : goal.invariant-loop-i
invariant-loop-i l = (l.lines ≤ l.i) × (header_from l.text true false ≡ further_on l.i l.lines (header_from (drop l.i l.text) l.begins l.found))
