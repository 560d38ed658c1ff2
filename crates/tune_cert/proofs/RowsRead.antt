-- Rows are read, record by record.
use Rattle.std.proofs.Common.{◌≡◌, ℕ, ◌+◌, ◌<◌, ◌≤◌, ◌^◌, List, [], ◌∷◌, ◌++◌, refl, sym, ◌∙◌, ap, arith, append-nil, append_assoc}
use Rattle.std.specs.Prelude.{Option, Some, None, Result, Ok, Err}
use Rattle.rc_instr.specs.Results.{mapped, with_fault, and_then}
use Rattle.tables.specs.Records.{Fields}
use Rattle.tune_problem.specs.declared.cert.Row.{Row}
use Rattle.tune_cert.specs.Spelling.{row_of, record_of, rows_from}
use Rattle.tune_cert.specs.declared.fault.ReadFault.TheVariants.{Malformed}
use Rattle.tune_cert.proofs.Forms.{row_spelled}

-- what the records still to be read give after what was read
abbrev pub with_read : List Row → Result (List Row) ℕ → Result (List Row) ℕ
with_read read more = mapped (λ (rows : List Row). read ++ rows) more

pub begun : (all : Result (List Row) ℕ) → all ≡ with_read [] all
begun (Ok rows) = refl
begun (Err n) = refl

more_read : (read : List Row) (row : Row) (more : Result (List Row) ℕ) → with_read read (and_then (λ (rows : List Row). Ok (row ∷ rows)) more) ≡ with_read (read ++ row ∷ []) more
more_read read row (Ok rows) = ap (λ (xs : List Row). Ok xs) (sym (append_assoc read (row ∷ []) rows))
more_read read row (Err n) = refl

-- one more row is read
pub one_more : (read : List Row) (row : Row) (v : ℕ) (fields : Fields) (rest : List Fields) (all : Result (List Row) ℕ)
    → all ≡ with_read read (rows_from v (fields ∷ rest)) → row_of v fields ≡ Some row → all ≡ with_read (read ++ row ∷ []) (rows_from (v + 1) rest)
unfolding rows_from
one_more read row v fields rest all e is = e ∙ rw is (more_read read row (rows_from (v + 1) rest))

-- no record is left
pub ended : (read : List Row) (v : ℕ) (records : List Fields) (all : Result (List Row) ℕ) → records ≡ [] → all ≡ with_read read (rows_from v records)
    → with_fault Malformed all ≡ Ok read
unfolding rows_from
ended read v records all none e = rw (e, none) (ap (λ (rows : List Row). Ok rows) (append-nil read))

-- a record that is not the row
pub not_one : (read : List Row) (v n : ℕ) (fields : Fields) (rest : List Fields) (all : Result (List Row) ℕ)
    → all ≡ with_read read (rows_from v (fields ∷ rest)) → row_of v fields ≡ None → n ≡ record_of v → with_fault Malformed all ≡ Err (Malformed n)
unfolding rows_from
not_one read v n fields rest all e is at = rw (e, is, at) refl

-- no setting has an index above 4294967295
pub too_many : (v : ℕ) (fields : Fields) → 2 ^ 32 ≤ v → row_of v fields ≡ None
too_many v fields many = by (row_of v fields) refl
  where
    by : (o : Option Row) → row_of v fields ≡ o → o ≡ None
    by None e = refl
    by (Some row) e =
        let small : v < 2 ^ 32 = (row_spelled v fields row e).0 in
        absurd (omega arith)
