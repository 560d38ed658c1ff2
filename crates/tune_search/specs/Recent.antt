-- The recent settings: those whose fights a search can share.
use Rattle.std.specs.Prelude.{◌≡◌, ◌≢◌, ℕ, zero, suc, ◌⊎◌, List, [], ◌∷◌, ◌++◌, take, Option, Some, None}
use Rattle.std.specs.List.{AllByRecursion}
use Rattle.rc_instr.specs.Warrior.{WarriorView}
use Rattle.tune_problem.specs.Problem.{Problem}
use Rattle.tune_search.specs.Visits.{setting_visited}

-- None of these settings has the warrior.
abbrev pub NoneHas : Problem → WarriorView → (settings : List ℕ) → Type 0
NoneHas p w settings = AllByRecursion (λ u. p.warrior u ≢ Some w) settings

-- Setting u is one of these settings, between a front and a back, and has the warrior.
pub record OneHas (p : Problem) (w : WarriorView) (u : ℕ) (settings : List ℕ) : Type 0 where
  pub front : List ℕ
  pub back : List ℕ
  pub split : settings ≡ front ++ u ∷ back
  pub alike : p.warrior u ≡ Some w

-- How a visit of setting v changes the recent settings. If v does not assemble they stay as they
-- are. One that has the warrior of v moves to the front. If there is none, v itself comes to the
-- front, and the list is cut to the capacity.
abbrev pub ChangesRecent : Problem → (capacity v : ℕ) → Option WarriorView → (old new : List ℕ) → Type 0
ChangesRecent p capacity v None old new = new ≡ old
ChangesRecent p capacity v (Some w) old new =
    ((u : ℕ) × (h : OneHas p w u old) × (new ≡ u ∷ (h.front ++ h.back)))
    ⊎ (NoneHas p w old × (new ≡ take capacity (v ∷ old)))

-- The recent settings after k visits, the last used first.
abbrev pub IsRecent : Problem → (capacity k : ℕ) → (settings : List ℕ) → Type 0
IsRecent p capacity zero settings = settings ≡ []
IsRecent p capacity (suc k) settings =
    (old : List ℕ) × IsRecent p capacity k old × ChangesRecent p capacity (setting_visited p.start k) (p.warrior (setting_visited p.start k)) old settings
