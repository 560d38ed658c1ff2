use Rattle.std.proofs.Common.{◌≡◌, take}
use Rattle.rc_expand.proofs.read.raw_line.clone_labels.Given as goal

abbrev pub invariant-loop-label : goal.invariant-loop-label
invariant-loop-label l = l.cloned ≡ take l.label-index l.labels
