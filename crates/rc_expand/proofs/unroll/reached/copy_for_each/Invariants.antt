use Rattle.std.proofs.Common.{◌≡◌, take}
use Rattle.rc_expand.specs.Unroll.Copies.{line_in}
use Rattle.rc_expand.specs.Unroll.Reached.{copies_in}
use Rattle.rc_expand.proofs.unroll.reached.copy_for_each.Given as goal

-- the line as it stands in the copies so far
abbrev pub invariant-loop-i : goal.invariant-loop-i
invariant-loop-i l = l.made ≡ line_in l.source (copies_in (take l.i l.copies)) l.fn.line
