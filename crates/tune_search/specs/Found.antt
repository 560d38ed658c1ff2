-- What a search finds for the best setting alone, and the work that any search does.
use Rattle.std.specs.Prelude.{◌≡◌, ◌≢◌, ℕ, ◌+◌, ◌<◌, ◌≤◌, Bool, true, false, not, ◌&&◌, ◌==◌, List, [], ◌∷◌, length, slice_get, Option, Some, None}
use Rattle.std.specs.List.{count_by, range_with_len}
use Rattle.rc_instr.specs.Warrior.{WarriorView}
use Rattle.tune_template.specs.Limits.{MOST_SETTINGS}
use Rattle.tune_problem.specs.Problem.{Problem}
use Rattle.tune_problem.specs.Optimum.{IsCandidate, IsOptimum, HasTotal, candidates_of}
use Rattle.tune_problem.specs.Valid.{IsOwnVersion, IsValid, listed_by, listed_fights, cert_of}
use Rattle.tune_problem.specs.declared.cert.Found.{Found}
use Rattle.tune_problem.specs.declared.cert.Row.{Row}
use Rattle.tune_problem.specs.declared.cert.Row.TheVariants.{Refused, Cap}
use Rattle.tune_search.specs.Visits.{IsFought}
use Rattle.tune_search.specs.Sharing.{IsVisited}
use Rattle.tune_search.specs.declared.fault.SearchFault.{SearchFault}
use Rattle.tune_search.specs.declared.fault.SearchFault.TheVariants.{NoCandidate}
use Rattle.tune_search.specs.declared.findings.Findings.{Findings}
use Rattle.tune_search.specs.declared.method.Method.{Method}
use Rattle.tune_problem.specs.Ranking.{best_alone}
use Rattle.tune_problem.specs.declared.aim.Aim.{Aim}

-- There is a row, and it is a cap row.
abbrev pub is_cap : Option Row → Bool
is_cap (Some (Cap row)) = true
is_cap _ = false

-- Setting v is the one with the copied row.
abbrev pub is_copied : (copied : Option ℕ) → (v : ℕ) → Bool
is_copied None v = false
is_copied (Some u) v = u == v

-- Setting v was fought if its row is a cap row, and not a copied one.
abbrev pub is_fought : List Row → (copied : Option ℕ) → (v : ℕ) → Bool
is_fought rows copied v = is_cap (slice_get rows v) && not (is_copied copied v)

-- Setting v was fought, by the rows of what a search found.
abbrev pub was_fought : Findings → ℕ → Bool
was_fought f v = is_fought f.rows f.copied v

-- Setting v has this warrior, and was fought.
pub record HasFought (p : Problem) (f : Findings) (w : WarriorView) (v : ℕ) : Type 0 where
  pub inside : v < p.count
  pub candidate : p.warrior v ≡ Some w
  pub fought : was_fought f v ≡ true

-- The number of settings that were fought.
unfoldable pub fought_count : Findings → ℕ
fought_count f = count_by (was_fought f) (range_with_len 0 (length f.rows))

-- The number of fights that the copied row lists, 0 if there is none.
abbrev pub copied_fights : List Row → (copied : Option ℕ) → ℕ
copied_fights rows None = 0
copied_fights rows (Some v) = listed_by (slice_get rows v)

-- No setting is a candidate.
abbrev pub NoneAssembles : Problem → Type 0
NoneAssembles p = (v : ℕ) → v < p.count → IsCandidate p v → ⊥

-- If the fault is `NoCandidate`, no setting assembles.
abbrev pub IsRefused : Problem → SearchFault → Type 0
IsRefused p fault = fault ≡ NoCandidate → NoneAssembles p

-- What was found as findings, which rank the best setting alone.
abbrev pub as_findings : Found → Findings
as_findings f = record {
  version = f.version;
  ranking = record { vector = f.best; total = f.total } ∷ [];
  rows = f.rows;
  fights = f.fights;
  candidates = f.candidates;
  copied = f.copied;
}

-- The rows and the counts of a search by a method, for an aim.
pub record IsWorkOf (p : Problem) (aim : Aim) (method : Method) (f : Findings) : Type 0 where
  -- the version is 1 exactly if every fight counts once
  pub version : IsOwnVersion p f.version
  pub count : f.candidates ≡ candidates_of p
  pub few : length f.rows ≤ MOST_SETTINGS
  -- a setting that does not assemble has the row `Refused`
  pub refused : (v : ℕ) → v < p.count → p.warrior v ≡ None → slice_get f.rows v ≡ Some Refused
  -- the fights of a fought setting are the first ones of its order, exactly as many as are enough
  pub fought : (v : ℕ) (w : WarriorView) → v < p.count → p.warrior v ≡ Some w → is_fought f.rows f.copied v ≡ true → IsFought p aim method f.rows v w
  -- a setting is fought exactly if none of the settings that are recent at its visit has its
  -- warrior; otherwise it shares the fights of the one that has it
  pub shared : (v : ℕ) (w : WarriorView) → v < p.count → p.warrior v ≡ Some w → IsVisited p aim method f.rows f.copied v w
  -- the setting with the copied row assembles; `shared` says whose row it copies
  pub copied : (v : ℕ) → f.copied ≡ Some v → (v < p.count) × (p.warrior v ≢ None)
  -- every listed fight was played once, except those of the copied row
  pub fights : f.fights + copied_fights f.rows f.copied ≡ listed_fights f.rows

-- What a search by a method finds if it is asked for the best setting.
pub record IsSearch (p : Problem) (method : Method) (f : Found) : Type 0 where
  -- the best setting is the optimum, and the rows are a valid certificate of it
  pub optimum : IsOptimum p f.best
  pub total_is : HasTotal p f.best f.total
  pub valid : IsValid p (cert_of f)
  -- the rows and the counts are those of a search by the method for the best setting alone
  pub work : IsWorkOf p best_alone method (as_findings f)
