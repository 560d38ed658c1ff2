use Rattle.std.proofs.Common.{◌≡◌, length}
use Rattle.rc_asm.specs.Faults.{forms_check}
use Rattle.rc_asm.proofs.forms.check_forms.Given as goal

abbrev pub decreases-loop-line : goal.decreases-loop-line
decreases-loop-line l = length l.rest

-- the lines that are left decide
abbrev pub invariant-loop-line : goal.invariant-loop-line
invariant-loop-line l = forms_check l.source l.lines ≡ forms_check l.source l.rest
