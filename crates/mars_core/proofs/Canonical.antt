-- An instruction does the same with its canonical modifier.
use Rattle.std.specs.Prelude.{List}
use Rattle.std.proofs.Common.{◌≡◌, ℕ, sym, ◌∙◌, ap, refl}
use Rattle.rc_instr.specs.declared.instruction.Instruction.{Instruction}
use Rattle.rc_instr.specs.declared.instruction.Opcode.{Opcode}
use Rattle.rc_instr.specs.declared.instruction.Opcode.TheVariants.{Dat, Mov, Add, Sub, Mul, Div, Mod, Jmp, Jmz, Jmn, Djn, Seq, Sne, Slt, Spl, Nop}
use Rattle.rc_instr.specs.declared.instruction.Modifier.{Modifier}
use Rattle.rc_instr.specs.declared.instruction.Modifier.TheVariants.{A, B, AB, BA, F, X, I}
use Rattle.mars_core.specs.Classes.{in_pairs, canonical_modifier}
use Rattle.mars_core.specs.Codes.{opcode_of, modifier_of, mode_of}
use Rattle.mars_core.specs.Executed.{IsFetched, IsEvaluated, IsActed, IsExecuted}
use Rattle.mars_core.specs.Operand.{Located}
use Rattle.mars_core.specs.Pairs.{pairs_of, computed, counted_down, has_zero_divisor, all_are, are_less}
use Rattle.mars_core.specs.Step.{effect_of, step_of}
use Rattle.mars_core.specs.declared.effect.Queued.{Queued}
use Rattle.mars_core.proofs.ClassParts.{IsCoded}

same_pairs : (k : Modifier) → pairs_of (in_pairs k) ≡ pairs_of k
same_pairs A = refl
same_pairs B = refl
same_pairs AB = refl
same_pairs BA = refl
same_pairs F = refl
same_pairs X = refl
same_pairs I = refl

same_effect : (o : Opcode) (k : Modifier) (m : ℕ) (core : List Instruction) (pc : ℕ) (a b : Located) → effect_of o (canonical_modifier o k) m core pc a b ≡ effect_of o k m core pc a b
unfolding effect_of computed counted_down has_zero_divisor all_are are_less
same_effect Dat k m core pc a b = refl
same_effect Jmp k m core pc a b = refl
same_effect Spl k m core pc a b = refl
same_effect Nop k m core pc a b = refl
same_effect Mov k m core pc a b = refl
same_effect Seq k m core pc a b = refl
same_effect Sne k m core pc a b = refl
same_effect Add k m core pc a b = rw (same_pairs k) refl
same_effect Sub k m core pc a b = rw (same_pairs k) refl
same_effect Mul k m core pc a b = rw (same_pairs k) refl
same_effect Div k m core pc a b = rw (same_pairs k) refl
same_effect Mod k m core pc a b = rw (same_pairs k) refl
same_effect Jmz k m core pc a b = rw (same_pairs k) refl
same_effect Jmn k m core pc a b = rw (same_pairs k) refl
same_effect Djn k m core pc a b = rw (same_pairs k) refl
same_effect Slt k m core pc a b = rw (same_pairs k) refl

acted : (i : Instruction) (o k x y m : ℕ) (core : List Instruction) (pc : ℕ) (a b : Located) →
    IsCoded o k x y i → effect_of (opcode_of o) (modifier_of k) m core pc a b ≡ effect_of i.opcode i.modifier m core pc a b
acted i o k x y m core pc a b c =
    ap (λ o. effect_of o (modifier_of k) m core pc a b) (sym c.opcode_is)
    ∙ ap (λ k. effect_of i.opcode k m core pc a b) (sym c.modifier_is)
    ∙ same_effect i.opcode i.modifier m core pc a b

stepped : (i : Instruction) (o k x y m : ℕ) (core : List Instruction) (pc n u : ℕ) (a b : Located) (second third : List Instruction) →
    IsFetched m core pc i → IsCoded o k x y i → n ≡ i.a_number → u ≡ i.b_number →
    IsEvaluated m core pc (mode_of x) n a second → IsEvaluated m second pc (mode_of y) u b third →
    effect_of i.opcode i.modifier m third pc a b ≡ step_of core pc
unfolding step_of
stepped i o k x y m core pc n u a b second third f c en eu va vb = rw (
  f.core_holds.size,
  sym f.cell,
  c.a_mode_is,
  c.b_mode_is,
  sym en,
  sym eu,
  sym (ap (λ p. p.1) va.value),
  sym (ap (λ p. p.0) va.value),
  sym (ap (λ p. p.1) vb.value),
  sym (ap (λ p. p.0) vb.value),
) refl

-- what the parts do in turn is the step of the instruction
pub executed : (i : Instruction) (o k x y m : ℕ) (core : List Instruction) (pc n u : ℕ) (a b : Located) (second third new : List Instruction) (q : Queued) →
    IsFetched m core pc i → IsCoded o k x y i → n ≡ i.a_number → u ≡ i.b_number →
    IsEvaluated m core pc (mode_of x) n a second → IsEvaluated m second pc (mode_of y) u b third →
    IsActed (opcode_of o) (modifier_of k) m third pc a b new q → IsExecuted m core pc new a.address q
executed i o k x y m core pc n u a b second third new q f c en eu va vb h = record {
  step = h.effect ∙ acted i o k x y m third pc a b c ∙ stepped i o k x y m core pc n u a b second third f c en eu va vb;
  core_holds = h.core_holds;
  jump_inside = va.inside.address;
}
