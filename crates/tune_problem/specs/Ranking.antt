-- The ranking of candidates: a list of `Best`, which here is any setting with its total. The
-- greatest total is first, then the smaller index.
use Rattle.std.specs.Prelude.{◌≡◌, ℕ, ◌-◌, ◌<◌, ◌≤◌, ◌⊎◌, Bool, true, false, ◌&&◌, nat_le, if◌then◌else◌, List, [], ◌∷◌, length, take, slice_get, Option, Some, None}
use Rattle.std.specs.List.{AllByRecursion}
use Rattle.rc_instr.specs.Warrior.{WarriorView}
use Rattle.tune_problem.specs.Limits.{MOST_KEPT}
use Rattle.tune_problem.specs.Problem.{Problem}
use Rattle.tune_problem.specs.Optimum.{total_of, beats}
use Rattle.tune_problem.specs.declared.aim.Aim.{Aim}
use Rattle.tune_problem.specs.declared.watcher.Best.{Best}

-- An aim keeps 1 to `MOST_KEPT` settings.
abbrev pub IsAim : Aim → Type 0
IsAim aim = (1 ≤ aim.keep) × (aim.keep ≤ MOST_KEPT)

-- The aim of a search for the best setting alone, whatever its total.
abbrev pub best_alone : Aim
best_alone = record { keep = 1; floor = 0 }

-- ---- what contends

-- Cap c of setting v beats the lead. Every cap does if there is none.
abbrev pub beats_lead : ℕ → ℕ → Option Best → Bool
beats_lead c v None = true
beats_lead c v (Some lead) = beats c v lead.total lead.vector

-- A ranking with one more setting, which comes before the first that it beats.
unfoldable pub ranked : Best → List Best → List Best
ranked x [] = x ∷ []
ranked x (y ∷ ys) = if beats x.total x.vector y.total y.vector then x ∷ y ∷ ys else y ∷ ranked x ys

-- The `keep`-th of a ranking, which a setting has to beat, or None if the ranking is shorter.
abbrev pub last_kept : Aim → List Best → Option Best
last_kept aim ranking = slice_get ranking (aim.keep - 1)

-- Cap c of setting v contends: it reaches the floor, and beats the last setting that is kept.
abbrev pub contends : Aim → ℕ → ℕ → List Best → Bool
contends aim c v ranking = nat_le aim.floor c && beats_lead c v (last_kept aim ranking)

-- The ranking with setting v and its total c, cut to what the aim keeps; or, if c does not contend,
-- the ranking as it was.
abbrev pub ranking_by : Aim → ℕ → ℕ → List Best → Bool → List Best
ranking_by aim c v ranking true = take aim.keep (ranked (record { total = c; vector = v }) ranking)
ranking_by aim c v ranking false = ranking

-- The ranking after setting v with its total c: v is ranked if c contends.
abbrev pub next_ranking : Aim → ℕ → ℕ → List Best → List Best
next_ranking aim c v ranking = ranking_by aim c v ranking (contends aim c v ranking)

-- The ranking after setting v, by the total of its warrior; as it was, if v has none.
abbrev pub ranking_with : Problem → Aim → ℕ → Option WarriorView → List Best → List Best
ranking_with p aim v None ranking = ranking
ranking_with p aim v (Some w) ranking = next_ranking aim (total_of p w) v ranking

-- The first of a ranking, which leads.
abbrev pub first_of : List Best → Option Best
first_of ranking = slice_get ranking 0

-- ---- what a ranking is

-- A candidate among some settings, with its total, which reaches the floor.
pub record IsRanked (p : Problem) (aim : Aim) (among : ℕ → Type 0) (x : Best) : Type 0 where
  pub warrior : WarriorView
  pub inside : x.vector < p.count
  pub is_among : among x.vector
  pub candidate : p.warrior x.vector ≡ Some warrior
  pub scores : total_of p warrior ≡ x.total
  pub reaches : aim.floor ≤ x.total

-- One setting comes before another in a ranking.
abbrev pub Ahead : Best → Best → Type 0
Ahead x y = beats x.total x.vector y.total y.vector ≡ true

-- Each setting comes before all that follow it.
abbrev pub InOrder : List Best → Type 0
InOrder [] = Unit {0}
InOrder (x ∷ xs) = AllByRecursion (Ahead x) xs × InOrder xs

-- The setting is in the list, with this total.
abbrev pub In : Best → List Best → Type 0
In x [] = ⊥
In x (y ∷ ys) = (x ≡ y) ⊎ In x ys

-- The first K of the ranking of some settings: at most `keep`, in order, each with its total; any
-- other candidate among them does not contend.
pub record IsRanking (p : Problem) (aim : Aim) (among : ℕ → Type 0) (ranking : List Best) : Type 0 where
  pub few : length ranking ≤ aim.keep
  pub members : AllByRecursion (IsRanked p aim among) ranking
  pub order : InOrder ranking
  pub others : (v : ℕ) (w : WarriorView) → v < p.count → among v → p.warrior v ≡ Some w
      → In (record { total = total_of p w; vector = v }) ranking ⊎ (contends aim (total_of p w) v ranking ≡ false)

-- Holds of every setting: the `among` of a ranking of all.
abbrev pub Any : ℕ → Type 0
Any v = Unit {0}
