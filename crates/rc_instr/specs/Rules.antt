-- The rules of a fight and their limits. What each number means is the 1994 draft's.
use Rattle.std.specs.Prelude.{ℕ, ◌<◌, ◌≤◌, ◌*◌}
use Rattle.rc_instr.specs.Limits.{LEAST_CORE, MOST_CORE, MOST_CYCLES, MOST_TASKS, MOST_LENGTH}

-- What contracts see of rules.
pub record RulesView : Type 0 where
  -- The cells of the core.
  pub core : ℕ
  -- The cycles after which a fight is a tie.
  pub cycles : ℕ
  -- The most tasks of a warrior.
  pub tasks : ℕ
  -- The most instructions of a warrior.
  pub length : ℕ
  -- The least distance between the first cells of two warriors, either way round the core.
  pub distance : ℕ

abbrev pub rules_view : ℕ → ℕ → ℕ → ℕ → ℕ → RulesView
rules_view core cycles tasks length distance =
    record { core = core; cycles = cycles; tasks = tasks; length = length; distance = distance }

abbrev pub HasCore : RulesView → Type 0
HasCore r = (LEAST_CORE ≤ r.core) × (r.core ≤ MOST_CORE)

-- A core is not empty, and its numbers fit 16 bits. That is all that load files and numbers need,
-- so laws of these ask for no rules.
abbrev pub IsCoreSize : ℕ → Type 0
IsCoreSize core = (0 < core) × (core ≤ MOST_CORE)

abbrev pub HasCycles : RulesView → Type 0
HasCycles r = (1 ≤ r.cycles) × (r.cycles ≤ MOST_CYCLES)

abbrev pub HasTasks : RulesView → Type 0
HasTasks r = (1 ≤ r.tasks) × (r.tasks ≤ MOST_TASKS)

abbrev pub HasLength : RulesView → Type 0
HasLength r = (1 ≤ r.length) × (r.length ≤ MOST_LENGTH)

-- The distance is from the length to half the core size.
abbrev pub HasDistance : RulesView → Type 0
HasDistance r = (r.length ≤ r.distance) × (2 * r.distance ≤ r.core)

-- All five numbers are within their limits.
pub record IsRules (r : RulesView) : Type 0 where
  pub core : HasCore r
  pub cycles : HasCycles r
  pub tasks : HasTasks r
  pub length : HasLength r
  pub distance : HasDistance r
