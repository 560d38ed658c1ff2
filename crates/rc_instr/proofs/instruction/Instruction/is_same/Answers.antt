use Rattle.std.proofs.Common.{◌∙◌, sym, ap}
use Rattle.rc_instr.proofs.Same.{derived, same-true, same_self}
use Rattle.rc_instr.specs.Instruction.{same_instruction}
use Rattle.rc_instr.proofs.instruction.Instruction.is_same.Goals as goal

pub returns-clause-value : goal.returns-clause-value
returns-clause-value c = c.eq.ensures ∙ derived c.args.self.now c.args.other.now

pub returns-clause-equal : goal.returns-clause-equal
returns-clause-equal c = (
  λ h. same-true _ _ (sym c.eq.ensures ∙ h),
  λ e. c.eq.ensures ∙ derived c.args.self.now c.args.other.now ∙ sym (ap (λ x. same_instruction c.args.self.now x) e)
      ∙ same_self c.args.self.now,
)
