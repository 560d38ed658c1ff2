-- What a tuning searches: settings, their warriors, and the points of a warrior in a fight.
use Rattle.std.specs.Prelude.{◌≡◌, ℕ, ◌<◌, List, length, slice_get, Option, Some, None}
use Rattle.rc_instr.specs.Rules.{RulesView}
use Rattle.rc_instr.specs.Warrior.{WarriorView}
use Rattle.mars_fight.specs.declared.fight.Fight.{Fight}
use Rattle.mars_fight.specs.Play.{points_of, ArePoints}
use Rattle.tune_problem.specs.Inputs.{InputsView, settings_of, part_start, warrior_of}

pub record Problem : Type 0 where
  -- The number of settings, and of fights. Both have indices from 0.
  pub count : ℕ
  pub fights : ℕ
  -- The index of the start setting.
  pub start : ℕ
  -- The warrior of a setting, if it assembles.
  pub warrior : ℕ → Option WarriorView
  -- The points of a warrior in the fight at an index.
  pub points : WarriorView → ℕ → ℕ
  -- The weight of the fight at an index: how many times its points count.
  pub weight : ℕ → ℕ

-- Every fight counts once.
abbrev pub CountsOnce : Problem → Type 0
CountsOnce p = (k : ℕ) → k < p.fights → p.weight k ≡ 1

-- In every problem a fight gives 0, 1 or 3 points.
pub record IsProblem (p : Problem) : Type 0 where
  pub scores : (w : WarriorView) (k : ℕ) → ArePoints (p.points w k)

-- A warrior's points in a fight against its opponent, or 0 if there is no such opponent.
abbrev pub points_with : RulesView → WarriorView → Fight → Option WarriorView → ℕ
points_with rules w fight None = 0
points_with rules w fight (Some opponent) = points_of rules w opponent fight

-- A warrior's points in a fight, or 0 if there is no such fight.
abbrev pub points_against : RulesView → List WarriorView → WarriorView → Option Fight → ℕ
points_against rules opponents w None = 0
points_against rules opponents w (Some fight) = points_with rules w fight (slice_get opponents fight.opponent)

-- A warrior's points in fight k of a schedule.
unfoldable pub fight_points : RulesView → List WarriorView → List Fight → WarriorView → ℕ → ℕ
fight_points rules opponents schedule w k = points_against rules opponents w (slice_get schedule k)

-- The weight of a fight, or 0 if there is no such fight.
abbrev pub weight_at : Option Fight → ℕ
weight_at None = 0
weight_at (Some fight) = fight.weight

-- The weight of fight k of a schedule.
unfoldable pub fight_weight : List Fight → ℕ → ℕ
fight_weight schedule k = weight_at (slice_get schedule k)

-- The problem that the inputs of a tuning pose: the settings of their part of the template in the
-- fights of the schedule.
abbrev pub problem_of : InputsView → Problem
problem_of i = record {
  count = length (settings_of i);
  fights = length i.schedule;
  start = part_start i;
  warrior = warrior_of i;
  points = fight_points i.rules i.opponents i.schedule;
  weight = fight_weight i.schedule;
}
