use Rattle.std.proofs.Common.{◌≡◌, ◌++◌, length}
use Rattle.rc_expand.specs.Replace.Lines.{own_labels, other_labels}
use Rattle.rc_expand.proofs.replace.finish.split_labels.Given as goal

abbrev pub decreases-loop-label : goal.decreases-loop-label
decreases-loop-label l = length l.rest

-- the labels so far, and those still to come
abbrev pub invariant-loop-label : goal.invariant-loop-label
invariant-loop-label l =
    (own_labels l.source l.labels ≡ l.own.items ++ own_labels l.source l.rest) × (other_labels l.source l.labels ≡ other_labels l.source l.rest)
