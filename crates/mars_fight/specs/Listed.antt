-- Which fights may be in a schedule.
use Rattle.std.specs.Prelude.{◌≡◌, ℕ, ◌+◌, ◌*◌, ◌<◌, ◌≤◌, List, All}
use Rattle.std.specs.List.{sum_by}
use Rattle.rc_instr.specs.Rules.{RulesView}
use Rattle.mars_fight.specs.Limits.{MOST_WEIGHT}
use Rattle.mars_fight.specs.declared.fight.Fight.{Fight}

-- The position is at least the distance away from the candidate at 0, both ways round the core.
pub record IsPosition (rules : RulesView) (position : ℕ) : Type 0 where
  pub low : rules.distance ≤ position
  pub high : position + rules.distance ≤ rules.core

-- A fight counts 1 to `MOST_WEIGHT` times.
pub record IsWeight (weight : ℕ) : Type 0 where
  pub least : 1 ≤ weight
  pub most : weight ≤ MOST_WEIGHT

-- The opponent exists, the position keeps the distance, and the weight is one that a fight may
-- have.
pub record IsFight (rules : RulesView) (opponents : ℕ) (fight : Fight) : Type 0 where
  pub opponent : fight.opponent < opponents
  pub position : IsPosition rules fight.position
  pub weight : IsWeight fight.weight

-- Every fight counts once.
abbrev pub IsPlain : List Fight → Type 0
IsPlain fights = All (λ (f : Fight). f.weight ≡ 1) fights

-- What a win in every fight gives: 3 points times the weight, summed.
unfoldable pub greatest_total : List Fight → ℕ
greatest_total fights = sum_by (λ (f : Fight). 3 * f.weight) fights
