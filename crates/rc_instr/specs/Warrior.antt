-- Warriors (1994 draft; with at most 200 instructions).
use Rattle.std.specs.Prelude.{ℕ, ◌<◌, ◌≤◌, List, length, All}
use Rattle.rc_instr.specs.Limits.{MOST_LENGTH}
use Rattle.rc_instr.specs.Rules.{RulesView}
use Rattle.rc_instr.specs.declared.instruction.Instruction.{Instruction}

-- What contracts see of a warrior: its instructions, and the index of the one where it starts.
pub record WarriorView : Type 0 where
  pub code : List Instruction
  pub start : ℕ

abbrev pub warrior_view : List Instruction → ℕ → WarriorView
warrior_view code start = record { code = code; start = start }

-- A warrior has 1 to 200 instructions, and starts at one of them.
pub record IsWarrior (w : WarriorView) : Type 0 where
  pub some : 0 < length w.code
  pub short : length w.code ≤ MOST_LENGTH
  pub inside : w.start < length w.code

-- Both numbers are below the core size `m`.
pub record IsBelow (m : ℕ) (i : Instruction) : Type 0 where
  pub a : i.a_number < m
  pub b : i.b_number < m

-- The warrior is not longer than the rules allow, and its numbers are below the core size.
pub record Fits (rules : RulesView) (w : WarriorView) : Type 0 where
  pub short : length w.code ≤ rules.length
  pub numbers : All (IsBelow rules.core) w.code
