-- Code that is loaded into a core one instruction after another.
use Rattle.std.proofs.Common.{◌≡◌, ℕ, ◌+◌, ◌≤◌, List, length, ◌∙◌}
use Rattle.std.proofs.lemmas.List.Edits.{sets, sets-eq}
use Rattle.rc_instr.specs.declared.instruction.Instruction.{Instruction}
use Rattle.mars_core.specs.Core.{loaded_at}

pub loaded : (core result : List Instruction) (at : ℕ) (code : List Instruction) → at + length code ≤ length core →
    result ≡ sets core at code → result ≡ loaded_at core at code
unfolding loaded_at
loaded core result at code room e = e ∙ sets-eq code core at room
