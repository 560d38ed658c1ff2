-- The order in which settings are visited, the ranking after some visits, and the fights that a
-- visit plays.
use Rattle.std.specs.Prelude.{◌≡◌, ℕ, zero, suc, ◌+◌, ◌-◌, nat_lt, ◌==◌, if◌then◌else◌, List, [], map, slice_get, Some}
use Rattle.std.specs.List.Sorted.{IsPermutation, IsStrictlyIncreasing}
use Rattle.rc_instr.specs.Warrior.{WarriorView}
use Rattle.tune_problem.specs.Problem.{Problem}
use Rattle.tune_problem.specs.Ranking.{ranking_with}
use Rattle.tune_problem.specs.declared.cert.Row.{Row}
use Rattle.tune_problem.specs.declared.cert.Row.TheVariants.{Cap}
use Rattle.tune_search.specs.Plays.{played}
use Rattle.tune_search.specs.Order.{aim_at, enough_fights, fight_order}
use Rattle.tune_problem.specs.declared.aim.Aim.{Aim}
use Rattle.tune_search.specs.declared.method.Method.{Method}
use Rattle.tune_problem.specs.declared.watcher.Best.{Best}

-- The setting that is visited after k others: the start setting first, then the others in order.
abbrev pub setting_visited : (start k : ℕ) → ℕ
setting_visited start k = if k == 0 then start else if nat_lt start k then k else k - 1

-- The number of settings that are visited before setting v.
abbrev pub visits_before : (start v : ℕ) → ℕ
visits_before start v = if v == start then 0 else if nat_lt v start then v + 1 else v

-- The first K of the ranking of the first k settings visited, by their totals.
unfoldable pub ranking_after : Problem → Aim → (k : ℕ) → List Best
ranking_after p aim zero = []
ranking_after p aim (suc k) = ranking_with p aim (setting_visited p.start k) (p.warrior (setting_visited p.start k)) (ranking_after p aim k)

-- The ranking of the settings that are visited before setting v.
abbrev pub ranking_before : Problem → Aim → (v : ℕ) → List Best
ranking_before p aim v = ranking_after p aim (visits_before p.start v)

-- The fights that the visit of setting v plays, if its warrior is w and it shares none: the first
-- ones of its order, as many as are enough against the ranking before the visit.
abbrev pub fights_of_visit : Problem → Aim → Method → (v : ℕ) → WarriorView → List ℕ
fights_of_visit p aim method v w = enough_fights p method (aim_at p aim v) w (fight_order p v) v (ranking_before p aim v)

-- A cap row lists these fights of a warrior with their points, by rising index.
pub record IsListed (p : Problem) (w : WarriorView) (fights : List ℕ) (row : List (ℕ × ℕ)) : Type 0 where
  pub same : IsPermutation (played p w fights) row
  pub rising : IsStrictlyIncreasing (map (λ e. e.0) row)

-- Setting v was fought: its row is a cap row, which lists the fights of its visit.
pub record IsFought (p : Problem) (aim : Aim) (method : Method) (rows : List Row) (v : ℕ) (w : WarriorView) : Type 0 where
  pub row : List (ℕ × ℕ)
  pub at : slice_get rows v ≡ Some (Cap row)
  pub listed : IsListed p w (fights_of_visit p aim method v w) row
