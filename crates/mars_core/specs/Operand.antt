-- Evaluating an operand: where it points, a copy of the cell there, and the core afterwards (1994
-- draft). That is an `Operand`. An opcode gets it as a `Located`, which has an address in place of
-- the pointer, and no core; the code has operands of this second form alone.
use Rattle.std.specs.Prelude.{ℕ, List}
use Rattle.rc_instr.specs.declared.instruction.Instruction.{Instruction}
use Rattle.rc_instr.specs.declared.instruction.Mode.{Mode}
use Rattle.rc_instr.specs.declared.instruction.Mode.TheVariants.{Immediate, Direct, AIndirect, BIndirect, APredecrement, BPredecrement, APostincrement, BPostincrement}
use Rattle.mars_core.specs.Core.{cell_at, changed_at, sum_of, difference_of, field_of}
use Rattle.mars_core.specs.declared.number.Field.{Field}
use Rattle.mars_core.specs.declared.number.Field.TheVariants.{ANumber, BNumber}

-- The pointer counts from the task's own cell.
pub record Operand : Type 0 where
  pub pointer : ℕ
  pub copy : Instruction
  pub core : List Instruction

-- An address, and a copy of the cell there.
pub record Located : Type 0 where
  pub address : ℕ
  pub copy : Instruction

-- The operand of the task at pc in a core of m cells, located.
abbrev pub located : ℕ → ℕ → Operand → Located
located m pc o = record { address = sum_of m pc o.pointer; copy = o.copy }

-- The operand with a given pointer, which changes nothing in the core.
abbrev pub pointing : ℕ → List Instruction → ℕ → ℕ → Operand
pointing m core pc pointer = record { pointer = pointer; copy = cell_at core (sum_of m pc pointer); core = core }

-- The pointer is n plus the number that the cell at pc + n holds.
abbrev pub indirect : ℕ → List Instruction → ℕ → ℕ → Field → Operand
indirect m core pc n field = pointing m core pc (sum_of m n (field_of field (cell_at core (sum_of m pc n))))

-- As `indirect`, but first lowers the number at pc + n by 1.
abbrev pub predecrement : ℕ → List Instruction → ℕ → ℕ → Field → Operand
predecrement m core pc n field = indirect m (changed_at core (sum_of m pc n) field (λ x. difference_of m x 1)) pc n field

-- As `indirect`, but raises the number at pc + n by 1 after the copy is taken.
abbrev pub postincrement : ℕ → List Instruction → ℕ → ℕ → Field → Operand
postincrement m core pc n field =
    record (indirect m core pc n field) { core = changed_at core (sum_of m pc n) field (λ x. sum_of m x 1) }

-- What each mode does with the number n, for the task at pc in a core of m cells.
unfoldable pub operand_of : ℕ → List Instruction → ℕ → Mode → ℕ → Operand
operand_of m core pc Immediate n = pointing m core pc 0
operand_of m core pc Direct n = pointing m core pc n
operand_of m core pc AIndirect n = indirect m core pc n ANumber
operand_of m core pc BIndirect n = indirect m core pc n BNumber
operand_of m core pc APredecrement n = predecrement m core pc n ANumber
operand_of m core pc BPredecrement n = predecrement m core pc n BNumber
operand_of m core pc APostincrement n = postincrement m core pc n ANumber
operand_of m core pc BPostincrement n = postincrement m core pc n BNumber
