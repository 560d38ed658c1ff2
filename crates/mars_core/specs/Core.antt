-- A core is a ring of m cells, each one instruction: the list of its m instructions. Numbers in it
-- are 0 to m - 1; arithmetic is modulo m (1994 draft).
use Rattle.std.specs.Prelude.{◌≡◌, ℕ, ◌+◌, ◌-◌, ◌*◌, ◌%◌, ◌<◌, ◌≤◌, List, ◌++◌, length, take, drop, slice_index_or, slice_set, count_by, not, All}
use Rattle.rc_instr.specs.Instruction.{empty_cell, same_instruction}
use Rattle.rc_instr.specs.Warrior.{IsBelow}
use Rattle.rc_instr.specs.declared.instruction.Instruction.{Instruction}
use Rattle.mars_core.specs.declared.number.Field.{Field}
use Rattle.mars_core.specs.declared.number.Field.TheVariants.{ANumber, BNumber}

unfoldable pub sum_of : ℕ → ℕ → ℕ → ℕ
sum_of m x y = (x + y) % m

unfoldable pub difference_of : ℕ → ℕ → ℕ → ℕ
difference_of m x y = (x + (m - y)) % m

unfoldable pub product_of : ℕ → ℕ → ℕ → ℕ
product_of m x y = (x * y) % m

-- One of the two numbers of an instruction.
abbrev pub field_of : Field → Instruction → ℕ
field_of ANumber i = i.a_number
field_of BNumber i = i.b_number

abbrev pub with_field : Field → ℕ → Instruction → Instruction
with_field ANumber n i = record i { a_number = n }
with_field BNumber n i = record i { b_number = n }

-- The instruction at an address.
unfoldable pub cell_at : List Instruction → ℕ → Instruction
cell_at core at = slice_index_or core at empty_cell

-- The core after the cell at an address is replaced by what a change makes of it.
abbrev pub updated_at : List Instruction → ℕ → (Instruction → Instruction) → List Instruction
updated_at core at change = slice_set core at (change (cell_at core at))

-- The core after one number of a cell is changed.
unfoldable pub changed_at : List Instruction → ℕ → Field → (ℕ → ℕ) → List Instruction
changed_at core at field change = slice_set core at (with_field field (change (field_of field (cell_at core at))) (cell_at core at))

-- The core after code is loaded from an address on, one instruction to a cell.
unfoldable pub loaded_at : List Instruction → ℕ → List Instruction → List Instruction
loaded_at core at code = take at core ++ code ++ drop (at + length code) core

-- A core has m cells, 8 to 65535, and every number in it is below m.
pub record IsCore (m : ℕ) (core : List Instruction) : Type 0 where
  pub large : 8 ≤ m
  pub small : m ≤ 65535
  pub size : length core ≡ m
  pub numbers : All (IsBelow m) core

-- A cell of a core of m cells, 2 to 65535: both numbers are below m, so one that is lowered or
-- raised by 1 modulo m is below m again.
pub record IsCellOf (m : ℕ) (i : Instruction) : Type 0 where
  pub several : 1 < m
  pub small : m ≤ 65535
  pub numbers : IsBelow m i

-- The number of cells that are not empty.
unfoldable pub filled_in : List Instruction → ℕ
filled_in core = count_by (λ i. not (same_instruction i empty_cell)) core

-- Tasks are addresses below m.
pub record AreTasks (m : ℕ) (tasks : List ℕ) : Type 0 where
  pub each : All (λ t. t < m) tasks
