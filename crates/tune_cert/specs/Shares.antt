-- The part of the settings that a share looks at, and certificates that are valid in a share.
use Rattle.std.specs.Prelude.{◌≡◌, ℕ, ◌<◌, ◌≤◌, true, List, length, slice_get, Some}
use Rattle.rc_instr.specs.Warrior.{WarriorView}
use Rattle.tune_problem.specs.Parts.{part, part_first, part_end, ForEach}
use Rattle.tune_problem.specs.Problem.{Problem}
use Rattle.tune_problem.specs.Optimum.{all_fights}
use Rattle.tune_problem.specs.Valid.{listed_indices, listed_total, IsVersionOf, IsRightBy, IsNoBetter, IsBestOrNoBetter}
use Rattle.tune_problem.specs.Exact.{listed_cap}
use Rattle.tune_problem.specs.declared.cert.Cert.{Cert}
use Rattle.tune_problem.specs.declared.cert.Row.{Row}
use Rattle.tune_problem.specs.declared.cert.Row.TheVariants.{Cap}
use Rattle.tune_problem.specs.declared.part.Part.{Part}
use Rattle.tune_cert.specs.Checks.{rises, are_fights}
use Rattle.tune_cert.specs.declared.share.Share.{Share}

-- The part of the settings whose rows a share has.
abbrev pub share_part : Share → Part
share_part share = part share.number share.shares

-- `Holds` of each share, if the rows are split into `shares`.
abbrev pub InEachShare : (shares : ℕ) → (Part → Type 0) → Type 0
InEachShare shares Holds = ForEach shares (λ number. Holds (part number shares))

-- The fights of a listing rise and exist, and the cap by the points listed there, as one of setting
-- v, does not beat the best setting.
abbrev pub IsNoBetterAsListed : Problem → Cert → (v : ℕ) → WarriorView → List (ℕ × ℕ) → Type 0
IsNoBetterAsListed p c v w row = (rises 0 row ≡ true) × (are_fights p row ≡ true) × IsNoBetter c (listed_cap p row) v

-- A row is right in a share if it is a right row of the certificate, except that the row to which
-- it refers is taken as listed, since that may be of another share.
abbrev pub IsRightInShare : Problem → Cert → (v : ℕ) → Row → Type 0
IsRightInShare p c v row = IsRightBy p c.rows (IsBestOrNoBetter p c v) (IsNoBetterAsListed p c v) v row

-- A certificate is valid in a share if its version, its number of rows and its best row are those
-- of a valid one, and the rows of the share's settings are right.
pub record IsValidInShare (p : Problem) (share : Part) (c : Cert) : Type 0 where
  pub version_is : IsVersionOf p c.version
  pub count_is : c.count ≡ p.count
  pub rows_are : length c.rows ≡ p.count
  pub best_row : List (ℕ × ℕ)
  pub best_at : slice_get c.rows c.best ≡ Some (Cap best_row)
  pub every : listed_indices best_row ≡ all_fights p
  pub sums : listed_total p best_row ≡ c.total
  pub right : (v : ℕ) (row : Row) → part_first share p.count ≤ v → v < part_end share p.count → slice_get c.rows v ≡ Some row
      → IsRightInShare p c v row
