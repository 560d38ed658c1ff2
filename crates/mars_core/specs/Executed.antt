-- A step of the code in terms of the definitions: how contracts see its operands and its queue,
-- what a step requires, and what each part of it ensures. The core has m cells.
use Rattle.std.specs.Prelude.{◌≡◌, ℕ, ◌<◌, List, [], ◌∷◌}
use Rattle.rc_instr.specs.Warrior.{IsBelow}
use Rattle.rc_instr.specs.declared.instruction.Instruction.{Instruction}
use Rattle.rc_instr.specs.declared.instruction.Opcode.{Opcode}
use Rattle.rc_instr.specs.declared.instruction.Modifier.{Modifier}
use Rattle.rc_instr.specs.declared.instruction.Mode.{Mode}
use Rattle.mars_core.specs.Core.{IsCore, cell_at, sum_of}
use Rattle.mars_core.specs.Operand.{Operand, Located, located, operand_of}
use Rattle.mars_core.specs.Step.{leaves, effect_of, step_of}
use Rattle.mars_core.specs.declared.operand.Located.{Located as LocatedIn}
use Rattle.mars_core.specs.declared.effect.Queued.{Queued}
use Rattle.mars_core.specs.declared.effect.Queued.TheVariants.{Nothing, Next, Skip, Jump, Split}

-- An operand of the code; `held` says which instruction is in a cell as its store keeps it.
abbrev pub seen_operand : {K : Type 0} → (K → Instruction) → LocatedIn K → Located
seen_operand held o = record { address = o.address; copy = held o.copy }

-- What evaluating an operand for the task at pc gives: the operand, located, and the core.
abbrev pub evaluated : ℕ → ℕ → Operand → Located × List Instruction
evaluated m pc o = (located m pc o, o.core)

-- The addresses that the task at pc queues, in order; `jump` is where its A-operand points.
abbrev pub addresses : ℕ → ℕ → ℕ → Queued → List ℕ
addresses m pc jump Nothing = []
addresses m pc jump Next = sum_of m pc 1 ∷ []
addresses m pc jump Skip = sum_of m pc 2 ∷ []
addresses m pc jump Jump = jump ∷ []
addresses m pc jump Split = sum_of m pc 1 ∷ jump ∷ []

-- The premise: i is the instruction at pc.
pub record IsFetched (m : ℕ) (core : List Instruction) (pc : ℕ) (i : Instruction) : Type 0 where
  pub core_holds : IsCore m core
  pub inside : pc < m
  pub cell : i ≡ cell_at core pc
  pub below : IsBelow m i

-- The address of an operand and both numbers of its copy are below m.
pub record IsInside (m : ℕ) (o : Located) : Type 0 where
  pub address : o.address < m
  pub copy : IsBelow m o.copy

-- The operand with this mode and this number is evaluated for the task at pc.
pub record IsEvaluated (m : ℕ) (core : List Instruction) (pc : ℕ) (mode : Mode) (n : ℕ) (o : Located) (core_new : List Instruction) : Type 0 where
  pub value : (o, core_new) ≡ evaluated m pc (operand_of m core pc mode n)
  pub inside : IsInside m o
  pub core_holds : IsCore m core_new

-- Both operands of i are evaluated: the A-operand, and the B-operand in the core that this leaves.
pub record AreEvaluated (m : ℕ) (core : List Instruction) (pc : ℕ) (i : Instruction) (a b : Located) (core_new : List Instruction) : Type 0 where
  pub a_is : a ≡ located m pc (operand_of m core pc i.a_mode i.a_number)
  pub b_is : IsEvaluated m (operand_of m core pc i.a_mode i.a_number).core pc i.b_mode i.b_number b core_new
  pub a_inside : IsInside m a

-- The opcode has acted on the operands a and b: the core that it leaves, and what it queues.
pub record IsActed (opcode : Opcode) (modifier : Modifier) (m : ℕ) (core : List Instruction) (pc : ℕ) (a b : Located) (core_new : List Instruction) (queued : Queued) : Type 0 where
  pub effect : leaves core_new (addresses m pc a.address queued) ≡ effect_of opcode modifier m core pc a b
  pub core_holds : IsCore m core_new

-- The step is done: the core that it leaves, what the task queues, and where its A-operand points.
pub record IsExecuted (m : ℕ) (core : List Instruction) (pc : ℕ) (core_new : List Instruction) (jump : ℕ) (queued : Queued) : Type 0 where
  pub step : leaves core_new (addresses m pc jump queued) ≡ step_of core pc
  pub core_holds : IsCore m core_new
  pub jump_inside : jump < m
