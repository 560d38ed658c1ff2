use Rattle.rc_expand.specs.Unroll.Numberings.{seen_numbering}
use Rattle.rc_expand.specs.Unroll.Copies.{copied_tokens}
use Rattle.rc_expand.proofs.Each.{SoFar}
use Rattle.rc_expand.proofs.unroll.copy.Numbering.copy_labels.Given as goal

abbrev pub invariant-loop-label : goal.invariant-loop-label
invariant-loop-label l = SoFar (copied_tokens (seen_numbering l.self)) l.label-items l.copied l.label-index
