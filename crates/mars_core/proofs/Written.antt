-- What is written pair by pair, and what is written number by number.
use Rattle.std.proofs.Common.{◌≡◌, ℕ, refl, ◌∙◌}
use Rattle.rc_instr.specs.declared.instruction.Instruction.{Instruction}
use Rattle.rc_instr.specs.declared.instruction.Opcode.{Opcode}
use Rattle.rc_instr.specs.declared.instruction.Opcode.TheVariants.{Dat, Mov, Add, Sub, Mul, Div, Mod, Jmp, Jmz, Jmn, Djn, Seq, Sne, Slt, Spl, Nop}
use Rattle.rc_instr.specs.declared.instruction.Modifier.{Modifier}
use Rattle.rc_instr.specs.declared.instruction.Modifier.TheVariants.{A, B, AB, BA, F, X, I}
use Rattle.mars_core.specs.Pairs.{pairs_of, written, written_value, computed}

-- only MOV with I takes the whole instruction
paired : (o : Opcode) (k : Modifier) (m : ℕ) (a b t : Instruction) → (o ≡ Mov → k ≡ I → ⊥) → written (written_value o m) (pairs_of k) a b t ≡ computed o k m a b t
unfolding computed
paired Dat k m a b t h = refl
paired Mov A m a b t h = refl
paired Mov B m a b t h = refl
paired Mov AB m a b t h = refl
paired Mov BA m a b t h = refl
paired Mov F m a b t h = refl
paired Mov X m a b t h = refl
paired Mov I m a b t h = absurd (h refl refl)
paired Add k m a b t h = refl
paired Sub k m a b t h = refl
paired Mul k m a b t h = refl
paired Div k m a b t h = refl
paired Mod k m a b t h = refl
paired Jmp k m a b t h = refl
paired Jmz k m a b t h = refl
paired Jmn k m a b t h = refl
paired Djn k m a b t h = refl
paired Seq k m a b t h = refl
paired Sne k m a b t h = refl
paired Slt k m a b t h = refl
paired Spl k m a b t h = refl
paired Nop k m a b t h = refl

pub computed_pairs : (o : Opcode) (k : Modifier) (m : ℕ) (a b t r : Instruction) → (o ≡ Mov → k ≡ I → ⊥) →
    r ≡ written (written_value o m) (pairs_of k) a b t → r ≡ computed o k m a b t
computed_pairs o k m a b t r h e = e ∙ paired o k m a b t h
