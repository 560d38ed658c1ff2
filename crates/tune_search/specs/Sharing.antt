-- Which settings are fought, and what the others share.
use Rattle.std.specs.Prelude.{◌≡◌, ◌≢◌, ℕ, ◌<◌, ◌⊎◌, Bool, true, false, ◌&&◌, nat_lt, ◌==◌, List, slice_get, Option, Some, None}
use Rattle.rc_instr.specs.Warrior.{WarriorView}
use Rattle.tune_problem.specs.Problem.{Problem}
use Rattle.tune_problem.specs.Ranking.{first_of}
use Rattle.tune_problem.specs.declared.cert.Row.{Row}
use Rattle.tune_problem.specs.declared.cert.Row.TheVariants.{Refused, Same}
use Rattle.tune_search.specs.Visits.{visits_before, ranking_before, IsFought}
use Rattle.tune_search.specs.Recent.{NoneHas, OneHas, IsRecent}
use Rattle.tune_search.specs.Method.{capacity_of}
use Rattle.tune_problem.specs.declared.aim.Aim.{Aim}
use Rattle.tune_search.specs.declared.method.Method.{Method}
use Rattle.tune_problem.specs.declared.watcher.Best.{Best}

-- Setting v is the lead.
abbrev pub leads : (v : ℕ) → (lead : Option Best) → Bool
leads v None = false
leads v (Some lead) = lead.vector == v

-- Setting v copies the row of u if u is the start setting and the lead, and v comes before it: then
-- v is the better one.
abbrev pub copies : (start u v : ℕ) → (lead : Option Best) → Bool
copies start u v lead = (u == start) && leads u lead && nat_lt v u

-- The row of v, which shares the fights of u. If v copies the row of u, `copied` is v, and the rows
-- are equal. Otherwise `copied` is not v, and the row of v is `Same u`.
abbrev pub HasRowOf : List Row → (copied : Option ℕ) → (u v : ℕ) → (is_copy : Bool) → Type 0
HasRowOf rows copied u v true = (copied ≡ Some v) × (slice_get rows v ≡ slice_get rows u)
HasRowOf rows copied u v false = (copied ≢ Some v) × (slice_get rows v ≡ Some (Same u))

-- The rows of a search for an aim by a method, and the setting with the copied row.
module _ (p : Problem) (aim : Aim) (method : Method) (rows : List Row) (copied : Option ℕ) where
  -- Setting v, with warrior w, shares the fights of u, which was fought before.
  pub record Shares (u v : ℕ) (w : WarriorView) : Type 0 where
    pub fought : IsFought p aim method rows u w
    pub before : visits_before p.start u < visits_before p.start v
    pub row : HasRowOf rows copied u v (copies p.start u v (first_of (ranking_before p aim v)))

  -- Setting v, with warrior w, is fought exactly if none of the settings that are recent at its
  -- visit has this warrior. Otherwise it shares the fights of the one that has it.
  pub record IsVisited (v : ℕ) (w : WarriorView) : Type 0 where
    pub recent : List ℕ
    pub is_recent : IsRecent p (capacity_of method) (visits_before p.start v) recent
    pub row : (NoneHas p w recent × (copied ≢ Some v) × IsFought p aim method rows v w)
        ⊎ ((u : ℕ) × OneHas p w u recent × Shares u v w)

  -- What the visit of setting v makes of its row: `Refused` if v does not assemble, else as
  -- `IsVisited` says.
  abbrev pub IsExplained : ℕ → Option WarriorView → Type 0
  IsExplained v None = (copied ≢ Some v) × (slice_get rows v ≡ Some Refused)
  IsExplained v (Some w) = IsVisited v w
