use Rattle.std.proofs.Common.{◌≡◌, ◌-◌, ◌≤◌, length, drop}
use Rattle.rc_expand.specs.Read.Lines.{label_split}
use Rattle.rc_expand.proofs.Reading.LabelSteps.{with_labels_before}
use Rattle.rc_expand.proofs.read.lines.read_labels.Given as goal

abbrev pub invariant-line : goal.invariant-line
invariant-line l =
    (label_split l.source l.tokens ≡ with_labels_before l.source l.labels (label_split l.source (drop l.at l.tokens))) × (l.at ≤ length l.tokens)

abbrev pub decreases-line : goal.decreases-line
decreases-line l = length l.tokens - l.at
