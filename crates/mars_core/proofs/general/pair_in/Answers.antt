use Rattle.std.specs.Prelude.{List}
use Rattle.std.proofs.Common.{◌≡◌, ℕ, ap, sym}
use Rattle.rc_instr.specs.declared.instruction.Instruction.{Instruction}
use Rattle.rc_instr.specs.declared.instruction.Mode.{Mode}
use Rattle.mars_core.specs.Operand.{Located}
use Rattle.mars_core.specs.Executed.{IsEvaluated, AreEvaluated}
use Rattle.mars_core.proofs.ClassParts.{moded}
use Rattle.mars_core.proofs.general.pair_in.Goals as goal

both : (m : ℕ) (core : List Instruction) (pc : ℕ) (i : Instruction) (x y : Mode) (n u : ℕ) (a b : Located) (second third : List Instruction) →
    i.a_mode ≡ x → i.b_mode ≡ y → n ≡ i.a_number → u ≡ i.b_number →
    IsEvaluated m core pc x n a second → IsEvaluated m second pc y u b third → AreEvaluated m core pc i a b third
both m core pc i x y n u a b second third ea eb en eu va vb = record {
  a_is = rw (ea, sym en) (ap (λ p. p.0) va.value);
  b_is = rw (ea, eb, sym en, sym eu, sym (ap (λ p. p.1) va.value)) vb;
  a_inside = va.inside;
}

pub returns-clause-evaluated : goal.returns-clause-evaluated
returns-clause-evaluated g c =
    let modes = moded _ _ _ _ c.requires.class c.requires.pair c.requires.known.0 c.requires.known.1 in
    both _ _ _ _ _ _ _ _ _ _ _ _ modes.a_mode_is modes.b_mode_is c.a_number.ensures c.b_number.ensures c.evaluate_in-a.ensures.evaluated c.evaluate_in-b.ensures.evaluated
