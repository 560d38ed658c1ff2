-- One step of a task (1994 draft; SEQ, SNE and NOP: pMARS). That one of two tested numbers is
-- enough for JMN and DJN to jump, and one of two pairs for SNE to skip, is this project's own.
use Rattle.std.specs.Prelude.{ℕ, if◌then◌else◌, List, [], ◌∷◌, length}
use Rattle.rc_instr.specs.declared.instruction.Instruction.{Instruction}
use Rattle.rc_instr.specs.declared.instruction.Opcode.{Opcode}
use Rattle.rc_instr.specs.declared.instruction.Opcode.TheVariants.{Dat, Mov, Add, Sub, Mul, Div, Mod, Jmp, Jmz, Jmn, Djn, Seq, Sne, Slt, Spl, Nop}
use Rattle.rc_instr.specs.declared.instruction.Modifier.{Modifier}
use Rattle.mars_core.specs.Core.{cell_at, updated_at, sum_of}
use Rattle.mars_core.specs.Operand.{Located, located, operand_of}
use Rattle.mars_core.specs.Pairs.{computed, counted_down, has_zero_divisor, all_are, are_equal, are_less}

-- What a step leaves: the core, and the addresses that it queues, in order.
pub record Effect : Type 0 where
  pub core : List Instruction
  pub queued : List ℕ

abbrev pub leaves : List Instruction → List ℕ → Effect
leaves core queued = record { core = core; queued = queued }

abbrev pub next : ℕ → ℕ → List ℕ
next m pc = sum_of m pc 1 ∷ []

abbrev pub skip : ℕ → ℕ → List ℕ
skip m pc = sum_of m pc 2 ∷ []

-- What each opcode does for the task at pc in a core of m cells, with the operands a and b. These
-- were evaluated before, so a copy may differ from the cell to which its operand points.
unfoldable pub effect_of : Opcode → Modifier → ℕ → List Instruction → ℕ → Located → Located → Effect
effect_of Dat k m core pc a b = leaves core []
effect_of Nop k m core pc a b = leaves core (next m pc)
effect_of Mov k m core pc a b = leaves (updated_at core b.address (computed Mov k m a.copy b.copy)) (next m pc)
effect_of Add k m core pc a b = leaves (updated_at core b.address (computed Add k m a.copy b.copy)) (next m pc)
effect_of Sub k m core pc a b = leaves (updated_at core b.address (computed Sub k m a.copy b.copy)) (next m pc)
effect_of Mul k m core pc a b = leaves (updated_at core b.address (computed Mul k m a.copy b.copy)) (next m pc)
effect_of Div k m core pc a b =
    leaves (updated_at core b.address (computed Div k m a.copy b.copy)) (if has_zero_divisor k a.copy then [] else next m pc)
effect_of Mod k m core pc a b =
    leaves (updated_at core b.address (computed Mod k m a.copy b.copy)) (if has_zero_divisor k a.copy then [] else next m pc)
effect_of Jmp k m core pc a b = leaves core (a.address ∷ [])
effect_of Jmz k m core pc a b = leaves core (if all_are k 0 b.copy then a.address ∷ [] else next m pc)
effect_of Jmn k m core pc a b = leaves core (if all_are k 0 b.copy then next m pc else a.address ∷ [])
effect_of Djn k m core pc a b =
    leaves (updated_at core b.address (counted_down k m)) (if all_are k 1 b.copy then next m pc else a.address ∷ [])
effect_of Seq k m core pc a b = leaves core (if are_equal k a.copy b.copy then skip m pc else next m pc)
effect_of Sne k m core pc a b = leaves core (if are_equal k a.copy b.copy then next m pc else skip m pc)
effect_of Slt k m core pc a b = leaves core (if are_less k a.copy b.copy then skip m pc else next m pc)
effect_of Spl k m core pc a b = leaves core (sum_of m pc 1 ∷ a.address ∷ [])

-- The step of the task at pc: fetch the instruction, evaluate its A-operand, evaluate its B-operand
-- in the core that the first leaves, and let the opcode act in the core that the second leaves.
unfoldable pub step_of : List Instruction → ℕ → Effect
step_of core pc =
    let m = length core in
    let i = cell_at core pc in
    let a = operand_of m core pc i.a_mode i.a_number in
    let b = operand_of m a.core pc i.b_mode i.b_number in
    effect_of i.opcode i.modifier m b.core pc (located m pc a) (located m pc b)
