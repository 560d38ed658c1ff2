-- Cells that were replaced.
use Rattle.std.proofs.Common.{◌≡◌, ℕ, ◌<◌, List, length, arith, get_or-set_same}
use Rattle.std.specs.Prelude.{slice_set}
use Rattle.rc_instr.specs.declared.instruction.Instruction.{Instruction}
use Rattle.mars_core.specs.Core.{cell_at, IsCore, field_of}
use Rattle.mars_core.specs.declared.number.Field.{Field}

-- the number that was written is read again
pub cell_set : (m n : ℕ) (core core' : List Instruction) (at : ℕ) (f : Field) (i : Instruction) → core' ≡ slice_set core at i → IsCore m core →
    at < m → n ≡ field_of f i → n ≡ field_of f (cell_at core' at)
unfolding cell_at
cell_set m n core core' at f i e h l p =
    let inside : at < length core = omega (arith, h.size) in
    rw (e, get_or-set_same) p
