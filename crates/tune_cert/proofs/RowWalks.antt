-- A walk over the rows of some settings.
use Rattle.std.proofs.Common.{◌≡◌, ℕ, suc, ◌+◌, ◌-◌, ◌<◌, ◌≤◌, ◌^◌, arith, false, List, [], ◌∷◌, length, Option, Some, None, refl, sym, ◌∙◌, ap, get_or}
use Rattle.std.specs.List.{slice_get, range_with_len, sum_by}
use Rattle.std.proofs.lemmas.List.Sums.{sum_by-cons}
use Rattle.std.proofs.lemmas.Option.{slice_get_read}
use Rattle.tune_problem.specs.Problem.{Problem}
use Rattle.tune_problem.specs.Valid.{listed_by, listed_in}
use Rattle.tune_problem.specs.declared.aim.Aim.{Aim}
use Rattle.tune_problem.specs.declared.statement.Statement.{Statement}
use Rattle.tune_problem.specs.declared.cert.Row.{Row}
use Rattle.tune_cert.specs.Checks.{refers, same_reason, reason_at, first_wrong, first_of, at_record, listed_fights_of}
use Rattle.tune_cert.specs.Spelling.{record_of}
use Rattle.tune_cert.specs.declared.verdict.Reason.{Reason}

-- the row that is read at an index
pub row_here : (rows seen : List Row) (v : ℕ) (row : Row) → seen ≡ rows → v < length rows → row ≡ get_or seen v row → slice_get rows v ≡ Some row
row_here rows seen v row same less is = slice_get_read rows (length rows) v row refl less (is ∙ ap (λ xs. get_or xs v row) same)

-- the settings from v to just before e begin with v
range_step : (v e : ℕ) → v < e → range_with_len v (e - v) ≡ v ∷ range_with_len (v + 1) (e - (v + 1))
range_step v e l = let more : e - v ≡ suc (e - (v + 1)) = omega (arith, l) in ap (range_with_len v) more

range_end : (v e : ℕ) → e ≤ v → range_with_len v (e - v) ≡ []
range_end v e l = let none : e - v ≡ 0 = omega (arith, l) in ap (range_with_len v) none

module _ (check : ℕ → Row → Option Reason) (rows : List Row) where
  here_is : (v : ℕ) (row : Row) (o : Option Reason) → slice_get rows v ≡ Some row → o ≡ check v row → reason_at check rows v ≡ o
  here_is v row o at is = rw at (sym is)

  -- nothing is wrong with the row of v
  pub right_here : (v e : ℕ) (row : Row) → v < e → slice_get rows v ≡ Some row → None ≡ check v row
      → first_wrong (reason_at check rows) (range_with_len v (e - v)) ≡ first_wrong (reason_at check rows) (range_with_len (v + 1) (e - (v + 1)))
  right_here v e row l at is =
      let rest = first_wrong (reason_at check rows) (range_with_len (v + 1) (e - (v + 1))) in
      ap (first_wrong (reason_at check rows)) (range_step v e l) ∙ ap (λ o. first_of (at_record (record_of v) o ∷ rest ∷ [])) (here_is v row None at is) ∙ only rest
    where
      only : (o : Option (ℕ × Reason)) → first_of (None ∷ o ∷ []) ≡ o
      only None = refl
      only (Some x) = refl

  -- the row of v is the first wrong one
  pub wrong_here : (v e : ℕ) (row : Row) (reason : Reason) → v < e → slice_get rows v ≡ Some row → Some reason ≡ check v row
      → first_wrong (reason_at check rows) (range_with_len v (e - v)) ≡ Some (record_of v, reason)
  wrong_here v e row reason l at is =
      let rest = first_wrong (reason_at check rows) (range_with_len (v + 1) (e - (v + 1))) in
      ap (first_wrong (reason_at check rows)) (range_step v e l) ∙ ap (λ o. first_of (at_record (record_of v) o ∷ rest ∷ [])) (here_is v row (Some reason) at is)

  pub none_left : (v e : ℕ) → e ≤ v → first_wrong (reason_at check rows) (range_with_len v (e - v)) ≡ None
  none_left v e l = ap (first_wrong (reason_at check rows)) (range_end v e l)

-- the fights that the row of v lists, and those of the rows after it
pub fights_step : (rows : List Row) (v e : ℕ) (row : Row) → v < e → slice_get rows v ≡ Some row
    → listed_fights_of rows (range_with_len v (e - v)) ≡ listed_in row + listed_fights_of rows (range_with_len (v + 1) (e - (v + 1)))
fights_step rows v e row l at =
    let by : ℕ → ℕ = λ u. listed_by (slice_get rows u) in
    let here : by v ≡ listed_in row = ap listed_by at in
    let rest = range_with_len (v + 1) (e - (v + 1)) in
    ap (sum_by by) (range_step v e l) ∙ (sum_by-cons by v rest ∙ ap (λ n. n + sum_by by rest) here)

-- nothing is to be checked of a row that refers to no other setting
pub no_reference : (p : Problem) (s : Statement) (aim : Option Aim) (v : ℕ) (row : Row) → refers row ≡ false → None ≡ same_reason p s aim v row
no_reference p s aim v row e = rw e refl

-- what was played so far, and what may still be played
pub played_within : (old all now rest listed more new : ℕ) → old + all < 2 ^ 64 → now + rest ≤ old + all → rest ≡ listed + more → (now + listed < 2 ^ 64 → new ≤ now + listed) → new + more ≤ old + all
played_within old all now rest listed more new room so_far parts own = let here : new ≤ now + listed = own (omega (arith, room, so_far, parts)) in omega (arith, here, so_far, parts)
