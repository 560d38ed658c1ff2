use Rattle.std.proofs.Common.{◌≡◌, length}
use Rattle.rc_text.specs.Reading.{signed_outcome}
use Rattle.rc_text.proofs.expression.signed_outcome.Given as goal

abbrev pub invariant-loop-last : goal.invariant-loop-last
invariant-loop-last l = signed_outcome l.rest l.outcome ≡ signed_outcome l.fn.signs l.fn.operand

abbrev pub decreases-loop-last : goal.decreases-loop-last
decreases-loop-last l = length l.rest
