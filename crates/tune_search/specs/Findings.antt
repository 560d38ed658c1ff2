-- What a search with an aim finds.
use Rattle.std.specs.Prelude.{◌≡◌, ℕ, ◌≤◌, ◌⊎◌, nat_le, if◌then◌else◌, List, length, slice_get, Option, Some, None}
use Rattle.std.specs.List.{AllByRecursion}
use Rattle.tune_problem.specs.Problem.{Problem}
use Rattle.tune_problem.specs.Optimum.{IsBest}
use Rattle.tune_problem.specs.Valid.{IsValid}
use Rattle.tune_problem.specs.declared.cert.Found.{Found}
use Rattle.tune_problem.specs.declared.cert.Row.{Row}
use Rattle.tune_problem.specs.declared.cert.Row.TheVariants.{Same, Cap}
use Rattle.tune_problem.specs.declared.watcher.Best.{Best}
use Rattle.tune_problem.specs.Ranking.{IsRanking, Any, first_of}
use Rattle.tune_problem.specs.Below.{AllBelow, IsValidBelow, cert_with}
use Rattle.tune_problem.specs.declared.aim.Aim.{Aim}
use Rattle.tune_search.specs.Found.{IsWorkOf}
use Rattle.tune_search.specs.declared.findings.Findings.{Findings}
use Rattle.tune_search.specs.declared.method.Method.{Method}

-- The best setting is the optimum, and its total reaches the floor. If there is none, no candidate
-- reaches the floor.
abbrev pub IsBestFrom : Problem → (floor : ℕ) → Option Best → Type 0
IsBestFrom p floor None = AllBelow p floor
IsBestFrom p floor (Some best) = IsBest p best × (floor ≤ best.total)

-- The rows are a valid certificate of the best setting, or that no candidate reaches the floor.
abbrev pub IsCertified : Problem → (floor version : ℕ) → List Row → Option Best → Type 0
IsCertified p floor version rows None = IsValidBelow p floor version rows
IsCertified p floor version rows (Some best) = IsValid p (cert_with version (length rows) rows best)

-- Findings as a `Found`, with this best setting.
abbrev pub found_of : Findings → Best → Found
found_of f best = record {
  version = f.version;
  best = best.vector;
  total = best.total;
  rows = f.rows;
  fights = f.fights;
  candidates = f.candidates;
  copied = f.copied;
}

-- The best setting of a search with this floor, by what a search without one found: its best
-- setting if the total reaches the floor, and otherwise none.
abbrev pub best_from : (floor : ℕ) → Found → Option Best
best_from floor g = if nat_le floor g.total then Some (record { vector = g.best; total = g.total }) else None

-- The row of a setting lists every fight, or is `Same` of one that does.
abbrev pub IsFull : Problem → List Row → Best → Type 0
IsFull p rows x = (u : ℕ) × (row : List (ℕ × ℕ)) × (slice_get rows u ≡ Some (Cap row)) × (length row ≡ p.fights)
    × ((u ≡ x.vector) ⊎ (slice_get rows x.vector ≡ Some (Same u)))

-- What a search by a method finds if it is asked for the first K of the ranking.
pub record IsSearchFor (p : Problem) (aim : Aim) (method : Method) (f : Findings) : Type 0 where
  -- the ranking has the first of all settings that reach the floor, as many as the aim keeps
  pub ranking : IsRanking p aim Any f.ranking
  -- each of them has a row with every fight, or one that refers to such a row
  pub full : AllByRecursion (IsFull p f.rows) f.ranking
  -- the first of them is the optimum; without one no candidate reaches the floor
  pub best : IsBestFrom p aim.floor (first_of f.ranking)
  -- the rows are a valid certificate of it, or that no candidate reaches the floor
  pub certified : IsCertified p aim.floor f.version f.rows (first_of f.ranking)
  -- the rows and the counts are those of a search by the method for this aim
  pub work : IsWorkOf p aim method f
