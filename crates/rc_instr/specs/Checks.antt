-- The checks of rules and warriors, in their order: what passes them all, or the first fault.
use Rattle.std.specs.Prelude.{ℕ, ◌*◌, Bool, ◌&&◌, nat_lt, nat_le, length, Result, Ok}
use Rattle.std.specs.List.{list_all}
use Rattle.rc_instr.specs.Results.{◌>>=◌, check}
use Rattle.rc_instr.specs.Limits.{LEAST_CORE, MOST_CORE, MOST_CYCLES, MOST_TASKS, MOST_LENGTH}
use Rattle.rc_instr.specs.Rules.{RulesView}
use Rattle.rc_instr.specs.Warrior.{WarriorView}
use Rattle.rc_instr.specs.declared.instruction.Instruction.{Instruction}
use Rattle.rc_instr.specs.declared.rules.RulesError.{RulesError}
use Rattle.rc_instr.specs.declared.rules.RulesError.TheVariants.{Core, Cycles, Tasks, Length, Distance}
use Rattle.rc_instr.specs.declared.warrior.WarriorError.{WarriorError}
use Rattle.rc_instr.specs.declared.warrior.WarriorError.TheVariants.{Empty, TooLong, BadStart, NumberTooLarge}

-- The number is from `low` to `high`.
abbrev pub is_within : (low high n : ℕ) → Bool
is_within low high n = nat_le low n && nat_le n high

-- The five numbers as rules, or which of them is the first out of its limits. The distance is from
-- the length to half the core size.
unfoldable pub rules_of : RulesView → Result RulesView RulesError
rules_of r = do
  _ ← check (is_within LEAST_CORE MOST_CORE r.core) Core
  _ ← check (is_within 1 MOST_CYCLES r.cycles) Cycles
  _ ← check (is_within 1 MOST_TASKS r.tasks) Tasks
  _ ← check (is_within 1 MOST_LENGTH r.length) Length
  _ ← check (nat_le r.length r.distance && nat_le (2 * r.distance) r.core) Distance
  Ok r

-- Both numbers are below the core size `m`.
abbrev pub is_below : (m : ℕ) → Instruction → Bool
is_below m i = nat_lt i.a_number m && nat_lt i.b_number m

-- Code and a start as a warrior under the rules, or its first fault.
unfoldable pub warrior_of : RulesView → WarriorView → Result WarriorView WarriorError
warrior_of r w = do
  _ ← check (nat_lt 0 (length w.code)) Empty
  _ ← check (nat_le (length w.code) r.length) TooLong
  _ ← check (nat_lt w.start (length w.code)) BadStart
  _ ← check (list_all (is_below r.core) w.code) NumberTooLarge
  Ok w
