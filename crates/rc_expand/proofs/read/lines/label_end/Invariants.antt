use Rattle.std.proofs.Common.{◌≡◌, ◌+◌, ◌-◌, ◌≤◌, length, drop}
use Rattle.rc_expand.specs.Read.Lines.{tail_len}
use Rattle.rc_expand.proofs.read.lines.label_end.Given as goal

abbrev pub invariant-loop-end : goal.invariant-loop-end
invariant-loop-end l = (l.from + tail_len l.source (drop l.from l.tokens) ≡ l.end + tail_len l.source (drop l.end l.tokens)) × (l.from ≤ l.end) × (l.end ≤ length l.tokens)

abbrev pub decreases-loop-end : goal.decreases-loop-end
decreases-loop-end l = length l.tokens - l.end
