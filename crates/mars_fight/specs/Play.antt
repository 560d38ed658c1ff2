-- The points of a fight.
use Rattle.std.specs.Prelude.{◌≡◌, ◌⊎◌, ℕ}
use Rattle.rc_instr.specs.Rules.{RulesView}
use Rattle.rc_instr.specs.Warrior.{WarriorView}
use Rattle.mars_core.specs.State.{start_of}
use Rattle.mars_core.specs.Fight.{outcome_of}
use Rattle.mars_fight.specs.declared.fight.Fight.{Fight}

-- The candidate's points in a fight against this opponent: the candidate is loaded at 0, the
-- opponent at the fight's position.
unfoldable pub points_of : RulesView → WarriorView → WarriorView → Fight → ℕ
points_of rules candidate opponent fight =
    let start = start_of rules.core candidate opponent fight.position in
    let outcome = outcome_of rules.tasks start fight.first rules.cycles in
    outcome.points

-- 3 for a win, 1 for a tie, 0 for a loss.
abbrev pub ArePoints : ℕ → Type 0
ArePoints points = (points ≡ 0) ⊎ ((points ≡ 1) ⊎ (points ≡ 3))
