-- Certificates that no candidate reaches a floor.
use Rattle.std.specs.Prelude.{◌≡◌, ℕ, ◌<◌, List, length, slice_get, Some}
use Rattle.rc_instr.specs.Warrior.{WarriorView}
use Rattle.tune_problem.specs.Problem.{Problem}
use Rattle.tune_problem.specs.Optimum.{cap_of, total_of}
use Rattle.tune_problem.specs.Valid.{IsRightBy, IsVersionOf, listed_indices}
use Rattle.tune_problem.specs.declared.cert.Cert.{Cert}
use Rattle.tune_problem.specs.declared.cert.Row.{Row}
use Rattle.tune_problem.specs.declared.watcher.Best.{Best}

-- The cap of a warrior by the fights that a row lists is below the floor.
abbrev pub IsBelowBy : Problem → (floor : ℕ) → WarriorView → List (ℕ × ℕ) → Type 0
IsBelowBy p floor w row = cap_of p w (listed_indices row) < floor

-- The row of setting v shows that v does not reach the floor.
abbrev pub IsRowBelow : Problem → ℕ → List Row → ℕ → Row → Type 0
IsRowBelow p floor rows v row = IsRightBy p rows (IsBelowBy p floor) (IsBelowBy p floor) v row

-- A valid certificate that no candidate reaches the floor: its version fits the schedule, and each
-- setting has a row, which shows that the setting does not reach the floor.
pub record IsValidBelow (p : Problem) (floor version : ℕ) (rows : List Row) : Type 0 where
  pub version_is : IsVersionOf p version
  pub rows_are : length rows ≡ p.count
  pub right : (v : ℕ) (row : Row) → slice_get rows v ≡ Some row → IsRowBelow p floor rows v row

-- Every candidate totals less than the floor.
abbrev pub AllBelow : Problem → ℕ → Type 0
AllBelow p floor = (v : ℕ) (w : WarriorView) → v < p.count → p.warrior v ≡ Some w → total_of p w < floor

-- The certificate of these rows, with this best setting.
abbrev pub cert_with : (version count : ℕ) → List Row → Best → Cert
cert_with version count rows best = record { version = version; count = count; best = best.vector; total = best.total; rows = rows }
