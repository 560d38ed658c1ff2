-- Valid certificates.
use Rattle.std.specs.Prelude.{◌≡◌, ◌≢◌, ◌⊎◌, ℕ, ◌+◌, ◌*◌, ◌<◌, ◌≤◌, false, List, [], ◌∷◌, length, map, slice_get, Option, Some, None}
use Rattle.std.specs.List.{sum_by}
use Rattle.rc_instr.specs.Warrior.{WarriorView}
use Rattle.tune_problem.specs.Problem.{Problem, CountsOnce}
use Rattle.tune_problem.specs.Optimum.{cap_of, beats}
use Rattle.tune_problem.specs.declared.cert.Cert.{Cert}
use Rattle.tune_problem.specs.declared.cert.Found.{Found}
use Rattle.tune_problem.specs.declared.cert.Row.{Row}
use Rattle.tune_problem.specs.declared.cert.Row.TheVariants.{Refused, Same, Cap}
use Rattle.tune_problem.specs.declared.watcher.Best.{Best}

-- The indices of the fights that a cap row lists.
abbrev pub listed_indices : List (ℕ × ℕ) → List ℕ
listed_indices row = map (λ e. e.0) row

-- The score that a cap row lists for a fight, and the total of these.
abbrev pub listed_score : Problem → ℕ × ℕ → ℕ
listed_score p = λ e. e.1 * p.weight e.0

abbrev pub listed_total : Problem → List (ℕ × ℕ) → ℕ
listed_total p row = sum_by (listed_score p) row

-- The listing of a cap row: each fight exists, and has w's points; the indices rise, from a or
-- more.
abbrev pub IsCapRow : Problem → WarriorView → ℕ → List (ℕ × ℕ) → Type 0
IsCapRow p w a [] = Unit {0}
IsCapRow p w a (e ∷ row) = (a ≤ e.0) × (e.0 < p.fights) × (e.1 ≡ p.points w e.0) × IsCapRow p w (e.0 + 1) row

-- The number of fights that a row lists.
abbrev pub listed_in : Row → ℕ
listed_in Refused = 0
listed_in (Same u) = 0
listed_in (Cap row) = length row

-- The number of fights that a row lists, and 0 without a row.
abbrev pub listed_by : Option Row → ℕ
listed_by None = 0
listed_by (Some row) = listed_in row

-- The number of fights that the rows list together.
unfoldable pub listed_fights : List Row → ℕ
listed_fights rows = sum_by listed_in rows

-- The row of setting v is right in one of three cases. Refused: v does not assemble. Cap: the row
-- is a cap row of v's warrior, and its listing meets `Own`. Same: another setting u has the same
-- warrior and a cap row, whose listing meets `Other`.
abbrev pub IsRightBy : Problem → List Row → (Own Other : WarriorView → List (ℕ × ℕ) → Type 0) → ℕ → Row → Type 0
IsRightBy p rows Own Other v Refused = p.warrior v ≡ None
IsRightBy p rows Own Other v (Cap row) = (w : WarriorView) × (p.warrior v ≡ Some w) × IsCapRow p w 0 row × Own w row
IsRightBy p rows Own Other v (Same u) =
    (w : WarriorView) × (row : List (ℕ × ℕ)) × (u ≢ v) × (u < p.count) × (p.warrior v ≡ Some w) × (p.warrior u ≡ Some w)
    × (slice_get rows u ≡ Some (Cap row)) × Other w row

-- A cap of setting v does not beat the best setting of the certificate.
abbrev pub IsNoBetter : Cert → ℕ → ℕ → Type 0
IsNoBetter c cap v = beats cap v c.total c.best ≡ false

-- The cap of a warrior by the fights that a row lists, as one of setting v, does not beat the best
-- setting.
abbrev pub IsNoBetterBy : Problem → Cert → (v : ℕ) → WarriorView → List (ℕ × ℕ) → Type 0
IsNoBetterBy p c v w row = IsNoBetter c (cap_of p w (listed_indices row)) v

-- `IsNoBetterBy`, unless v is the best setting.
abbrev pub IsBestOrNoBetter : Problem → Cert → (v : ℕ) → WarriorView → List (ℕ × ℕ) → Type 0
IsBestOrNoBetter p c v w row = v ≢ c.best → IsNoBetterBy p c v w row

-- The row of setting v shows that v is not better than the best setting, unless it is that one.
abbrev pub IsRightRow : Problem → Cert → ℕ → Row → Type 0
IsRightRow p c v row = IsRightBy p c.rows (IsBestOrNoBetter p c v) (IsNoBetterBy p c v) v row

-- Version 1 is for schedules in which every fight counts once. Version 2 is for any.
abbrev pub IsVersionOf : Problem → ℕ → Type 0
IsVersionOf p version = version ≡ 1 → CountsOnce p

-- The version that a search writes: 1 exactly if every fight counts once.
abbrev pub IsOwnVersion : Problem → ℕ → Type 0
IsOwnVersion p version = ((version ≡ 1) × CountsOnce p) ⊎ ((version ≡ 2) × (CountsOnce p → ⊥))

-- A valid certificate has a right row for each setting. The row of the best setting lists every
-- fight, and its scores add up to the total.
pub record IsValid (p : Problem) (c : Cert) : Type 0 where
  pub version_is : IsVersionOf p c.version
  pub count_is : c.count ≡ p.count
  pub rows_are : length c.rows ≡ p.count
  pub best_row : List (ℕ × ℕ)
  pub best_inside : c.best < p.count
  pub best_at : slice_get c.rows c.best ≡ Some (Cap best_row)
  pub whole : length best_row ≡ p.fights
  pub sums : listed_total p best_row ≡ c.total
  pub right : (v : ℕ) (row : Row) → slice_get c.rows v ≡ Some row → IsRightRow p c v row

-- The best setting that a certificate names, with the total that it claims.
abbrev pub named_best : Cert → Best
named_best c = record { vector = c.best; total = c.total }

-- The certificate of what a search found.
abbrev pub cert_of : Found → Cert
cert_of f = record { version = f.version; count = length f.rows; best = f.best; total = f.total; rows = f.rows }
