use Rattle.std.proofs.Common.{◌-◌, length, drop}
use Rattle.rc_expand.specs.Unroll.Numberings.{seen_numbering}
use Rattle.rc_expand.specs.Unroll.Copies.{copied_tokens}
use Rattle.rc_expand.proofs.Unrolling.Copies.{Rest}
use Rattle.rc_expand.proofs.unroll.copy.Numbering.copy_tokens.Given as goal

abbrev pub invariant-loop-at : goal.invariant-loop-at
invariant-loop-at l =
    Rest (seen_numbering l.self) l.tokens l.copied.items (copied_tokens (seen_numbering l.self) (drop l.at l.tokens))

abbrev pub decreases-loop-at : goal.decreases-loop-at
decreases-loop-at l = length l.tokens - l.at
