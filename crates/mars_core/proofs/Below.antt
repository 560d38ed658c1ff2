-- Numbers stay below the size.
use Rattle.std.proofs.Common.{◌≡◌, ℕ, ◌<◌, List, slice_set, arith, ◌∙◌, length-set}
use Rattle.std.proofs.lemmas.List.Elements.{All-get_or, All-set}
use Rattle.rc_instr.specs.Instruction.{empty_cell}
use Rattle.rc_instr.specs.declared.instruction.Instruction.{Instruction}
use Rattle.rc_instr.specs.Warrior.{IsBelow}
use Rattle.mars_core.specs.Core.{cell_at, field_of, with_field, IsCore}
use Rattle.mars_core.specs.declared.number.Field.{Field}
use Rattle.mars_core.specs.declared.number.Field.TheVariants.{ANumber, BNumber}

pub cell_below : (m : ℕ) (core : List Instruction) (at : ℕ) (i : Instruction) → i ≡ cell_at core at → IsCore m core → at < m → IsBelow m i
unfolding cell_at
cell_below m core at i e h l = rw e (All-get_or (IsBelow m) core at empty_cell (omega (arith, h.size)) h.numbers)

pub core_set : (m : ℕ) (core : List Instruction) (at : ℕ) (i : Instruction) → IsCore m core → IsBelow m i → IsCore m (slice_set core at i)
core_set m core at i h p = record { large = h.large; small = h.small; size = length-set core at i ∙ h.size; numbers = All-set (IsBelow m) core at i p h.numbers }

-- each number is below the core size
pub field_below : (m n : ℕ) (f : Field) (i : Instruction) → n ≡ field_of f i → IsBelow m i → n < m
field_below m n ANumber i e h = rw e h.a
field_below m n BNumber i e h = rw e h.b

-- an instruction with a number below the core size in place of one of its numbers
pub put_below : (m n : ℕ) (f : Field) (i j : Instruction) → j ≡ with_field f n i → n < m → IsBelow m i → IsBelow m j
put_below m n ANumber i j e l h = rw e (record { a = l; b = h.b })
put_below m n BNumber i j e l h = rw e (record { a = h.a; b = l })

pub ruleset fields = (field_below, put_below)
