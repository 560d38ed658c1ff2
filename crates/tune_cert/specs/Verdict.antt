-- The verdict on records, and what a verdict on all rows promises.
use Rattle.std.specs.Prelude.{◌≡◌, ◌⊎◌, ℕ, ◌<◌, List, length, slice_get, Some, None}
use Rattle.tables.specs.Records.{Fields}
use Rattle.tune_problem.specs.Problem.{Problem}
use Rattle.tune_problem.specs.Optimum.{all_fights, IsBest}
use Rattle.tune_problem.specs.Valid.{listed_indices, listed_total, IsVersionOf, IsValid}
use Rattle.tune_problem.specs.declared.cert.Cert.{Cert}
use Rattle.tune_problem.specs.declared.cert.Row.{Row}
use Rattle.tune_problem.specs.declared.cert.Row.TheVariants.{Refused, Same, Cap}
use Rattle.tune_problem.specs.declared.part.Part.{Part}
use Rattle.tune_cert.specs.CertText.{stated}
use Rattle.tune_cert.specs.Spelling.{Spells, IsMalformed, IsFirstMalformed, record_of}
use Rattle.tune_cert.specs.Checks.{row_reason}
use Rattle.tune_cert.specs.Judgement.{no_demand, judgement_of, judged}
use Rattle.tune_cert.specs.declared.verdict.Reason.{Reason}
use Rattle.tune_cert.specs.declared.verdict.Reason.TheVariants.{Malformed, RowCount, BestRow, Version}
use Rattle.tune_cert.specs.declared.verdict.Verdict.{Verdict}
use Rattle.tune_cert.specs.declared.verdict.Verdict.TheVariants.{Accepted, Rejected}

-- The verdict of a share on records is the judgement without a demand.
abbrev pub IsVerdictOf : Problem → Part → List Fields → Verdict → Type 0
IsVerdictOf p share records verdict = judgement_of p no_demand share records ≡ judged verdict

-- ---- what a verdict on all rows promises

-- There is a row for each setting, and the certificate claims this count.
abbrev pub HasRowCount : Problem → Cert → Type 0
HasRowCount p c = (c.count ≡ p.count) × (length c.rows ≡ p.count)

-- The row of the best setting lists every fight in order, and its scores add up to the total.
pub record IsBestRow (p : Problem) (c : Cert) : Type 0 where
  pub row : List (ℕ × ℕ)
  pub here : slice_get c.rows c.best ≡ Some (Cap row)
  pub every : listed_indices row ≡ all_fights p
  pub sums : listed_total p row ≡ c.total

-- The record is a row, and this is what is wrong with it.
pub record IsWrongRow (p : Problem) (c : Cert) (index : ℕ) (reason : Reason) : Type 0 where
  pub vector : ℕ
  pub index_is : index ≡ record_of vector
  pub row : Row
  pub here : slice_get c.rows vector ≡ Some row
  pub wrong : row_reason p (stated c) None vector row ≡ Some reason

-- What each reason says of the certificate, at the record that a rejection names.
abbrev pub IsRejected : Problem → Cert → (index : ℕ) → Reason → Type 0
IsRejected p c index Malformed = ⊥
IsRejected p c index Version = (index ≡ 0) × (IsVersionOf p c.version → ⊥)
IsRejected p c index RowCount = (index ≡ 0) × (HasRowCount p c → ⊥)
IsRejected p c index BestRow = (index ≡ 1) × (IsBestRow p c → ⊥)
IsRejected p c index reason = IsWrongRow p c index reason

-- Accepted: the records spell a valid certificate with this best setting and total. Rejected: a
-- record is malformed, or they spell a certificate of which the reason holds at that record.
abbrev pub IsVerdict : Problem → List Fields → Verdict → Type 0
IsVerdict p records (Accepted best total) = (c : Cert) × Spells records c × IsValid p c × (best ≡ c.best) × (total ≡ c.total)
IsVerdict p records (Rejected index reason) =
    ((reason ≡ Malformed) × IsMalformed records index) ⊎ ((c : Cert) × Spells records c × IsRejected p c index reason)

-- The row r of setting u is checked before the row of setting v: all refused and cap rows are
-- checked first, in order, and then the rows that refer to others.
abbrev pub IsCheckedBefore : (u : ℕ) → Row → (v : ℕ) → Row → Type 0
IsCheckedBefore u (Same s) v (Same t) = u < v
IsCheckedBefore u (Same s) v Refused = ⊥
IsCheckedBefore u (Same s) v (Cap row) = ⊥
IsCheckedBefore u Refused v (Same t) = Unit {0}
IsCheckedBefore u Refused v Refused = u < v
IsCheckedBefore u Refused v (Cap row) = u < v
IsCheckedBefore u (Cap r) v (Same t) = Unit {0}
IsCheckedBefore u (Cap r) v Refused = u < v
IsCheckedBefore u (Cap r) v (Cap row) = u < v

-- The record is a row, and nothing is wrong with the rows that are checked before it.
pub record IsFirstRow (p : Problem) (c : Cert) (index : ℕ) : Type 0 where
  pub vector : ℕ
  pub index_is : index ≡ record_of vector
  pub row : Row
  pub here : slice_get c.rows vector ≡ Some row
  pub before : (u : ℕ) (r : Row) → slice_get c.rows u ≡ Some r → IsCheckedBefore u r vector row → row_reason p (stated c) None u r ≡ None

-- Everything that is checked before the reason is right. A certificate has no malformed record.
abbrev pub IsFirstOfCert : Problem → Cert → (index : ℕ) → Reason → Type 0
IsFirstOfCert p c index Malformed = ⊥
IsFirstOfCert p c index Version = Unit {0}
IsFirstOfCert p c index RowCount = IsVersionOf p c.version
IsFirstOfCert p c index BestRow = IsVersionOf p c.version × HasRowCount p c
IsFirstOfCert p c index reason = IsVersionOf p c.version × HasRowCount p c × IsBestRow p c × IsFirstRow p c index

-- A rejection names the first record at which a check fails, and the first reason there. A
-- malformed record is the first such; for any other reason the records spell a certificate.
abbrev pub IsFirst : Problem → List Fields → Verdict → Type 0
IsFirst p records (Accepted best total) = Unit {0}
IsFirst p records (Rejected index Malformed) = IsFirstMalformed records index
IsFirst p records (Rejected index reason) = (c : Cert) × Spells records c × IsFirstOfCert p c index reason

-- An accepted certificate names the optimum and its total.
abbrev pub IsOptimal : Problem → Verdict → Type 0
IsOptimal p (Accepted best total) = IsBest p (record { vector = best; total = total })
IsOptimal p (Rejected index reason) = Unit {0}

-- All that is promised of a verdict on records, whoever made them.
pub record IsRightVerdict (p : Problem) (records : List Fields) (verdict : Verdict) : Type 0 where
  -- what it says holds
  pub holds : IsVerdict p records verdict
  -- a rejection names the first record at which a check fails, and the first reason there
  pub first : IsFirst p records verdict
  -- an accepted certificate names the optimum and its total
  pub optimum : IsOptimal p verdict
  -- a valid certificate is accepted
  pub accepted : (c : Cert) → Spells records c → IsValid p c → verdict ≡ Accepted c.best c.total
