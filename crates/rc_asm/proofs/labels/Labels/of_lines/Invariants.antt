use Rattle.std.proofs.Common.{◌≤◌, ◌+◌, ◌++◌, length}
use Rattle.rc_asm.specs.Names.{labels_from, labels_of}
use Rattle.rc_asm.specs.Names.{Agree}
use Rattle.rc_asm.proofs.labels.Labels.of_lines.Given as goal

abbrev pub decreases-loop-line : goal.decreases-loop-line
decreases-loop-line l = length l.rest

-- the lines that are left make the labels whole
abbrev pub invariant-loop-line : goal.invariant-loop-line
invariant-loop-line l = (l.address + length l.rest ≤ length l.lines) × Agree (l.labels ++ labels_from l.source l.address l.rest) (labels_of l.source l.lines)
