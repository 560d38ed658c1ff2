-- The records of a statement are read in order.
use Rattle.std.proofs.Common.{◌≡◌, ℕ, Bool, false, List, [], ◌∷◌, drop, refl, sym, ◌∙◌, ap}
use Rattle.std.specs.Prelude.{Result, Ok, Err}
use Rattle.rc_instr.specs.Results.{with_fault, and_then, ◌>>=◌}
use Rattle.tables.specs.Records.{Fields}
use Rattle.tune_problem.specs.declared.cert.Row.{Row}
use Rattle.tune_problem.specs.declared.statement.Answer.{Answer}
use Rattle.tune_problem.specs.declared.statement.Statement.{Statement}
use Rattle.tune_cert.specs.Spelling.{count_of, answer_of, first_as, rows_from, statement_of, cert_by, cert_of_records, Returns}
use Rattle.tune_cert.specs.declared.fault.ReadFault.{ReadFault}
use Rattle.tune_cert.specs.declared.fault.ReadFault.TheVariants.{Malformed}
use Rattle.tune_cert.proofs.Statements.{same_Ok, same_Err, after_answer}

-- a fault of the first step is the fault of a chain, and its value is passed on
faulted : {A B : Type 0} (r : Result A ℕ) (f : A → Result B ℕ) (e : ReadFault) → with_fault Malformed r ≡ Err e → with_fault Malformed (and_then f r) ≡ Err e
faulted (Ok x) f e h = absurd (cc)
faulted (Err n) f e h = ap Err (same_Err (Malformed n) e h)

went : {A B : Type 0} (r : Result A ℕ) (f : A → Result B ℕ) (x : A) → with_fault Malformed r ≡ Ok x → and_then f r ≡ f x
went (Ok y) f x h = ap f (same_Ok y x h)
went (Err n) f x h = absurd (cc)

drop_two : (records : List Fields) → drop 1 (drop 1 records) ≡ drop 2 records
drop_two [] = refl
drop_two (a ∷ []) = refl
drop_two (a ∷ b ∷ records) = refl

abbrev after_count : Bool → List Fields → ℕ × ℕ → Result Statement ℕ
after_count floors records count = first_as (answer_of floors) 1 (drop 1 records) >>= after_answer (drop 2 records) count

module _ (floors : Bool) (records : List Fields) where
  pub count_wrong : (e : ReadFault) → with_fault Malformed (first_as count_of 0 records) ≡ Err e → with_fault Malformed (statement_of floors records) ≡ Err e
  unfolding statement_of
  count_wrong e h = faulted (first_as count_of 0 records) (after_count floors records) e h

  counted : (count : ℕ × ℕ) → with_fault Malformed (first_as count_of 0 records) ≡ Ok count → statement_of floors records ≡ after_count floors records count
  unfolding statement_of
  counted count h = went (first_as count_of 0 records) (after_count floors records) count h

  pub answer_wrong : (rest : List Fields) (count : ℕ × ℕ) (e : ReadFault) → with_fault Malformed (first_as count_of 0 records) ≡ Ok count → drop 1 records ≡ rest
      → with_fault Malformed (first_as (answer_of floors) 1 rest) ≡ Err e → with_fault Malformed (statement_of floors records) ≡ Err e
  answer_wrong rest count e c r h =
      ap (with_fault Malformed) (counted count c) ∙ faulted (first_as (answer_of floors) 1 (drop 1 records)) (after_answer (drop 2 records) count) e (ap (λ (l : List Fields). with_fault Malformed (first_as (answer_of floors) 1 l)) r ∙ h)

  answered : (rest others : List Fields) (count : ℕ × ℕ) (answer : Answer) → with_fault Malformed (first_as count_of 0 records) ≡ Ok count → drop 1 records ≡ rest
      → with_fault Malformed (first_as (answer_of floors) 1 rest) ≡ Ok answer → drop 1 rest ≡ others → statement_of floors records ≡ after_answer others count answer
  answered rest others count answer c r a s =
      let left : drop 2 records ≡ others = sym (drop_two records) ∙ ap (drop 1) r ∙ s in
      counted count c
      ∙ went (first_as (answer_of floors) 1 (drop 1 records)) (after_answer (drop 2 records) count) answer (ap (λ (l : List Fields). with_fault Malformed (first_as (answer_of floors) 1 l)) r ∙ a)
      ∙ ap (λ (l : List Fields). after_answer l count answer) left

  pub rows_wrong : (rest others : List Fields) (count : ℕ × ℕ) (answer : Answer) (e : ReadFault) → with_fault Malformed (first_as count_of 0 records) ≡ Ok count → drop 1 records ≡ rest
      → with_fault Malformed (first_as (answer_of floors) 1 rest) ≡ Ok answer → drop 1 rest ≡ others → with_fault Malformed (rows_from 0 others) ≡ Err e
      → with_fault Malformed (statement_of floors records) ≡ Err e
  rows_wrong rest others count answer e c r a s h =
      ap (with_fault Malformed) (answered rest others count answer c r a s)
      ∙ faulted (rows_from 0 others) (λ (rows : List Row). Ok (record { version = count.0; count = count.1; answer = answer; rows = rows })) e h

  pub all_read : (rest others : List Fields) (count : ℕ × ℕ) (answer : Answer) (rows : List Row) → with_fault Malformed (first_as count_of 0 records) ≡ Ok count → drop 1 records ≡ rest
      → with_fault Malformed (first_as (answer_of floors) 1 rest) ≡ Ok answer → drop 1 rest ≡ others → with_fault Malformed (rows_from 0 others) ≡ Ok rows
      → with_fault Malformed (statement_of floors records) ≡ Ok (record { version = count.0; count = count.1; answer = answer; rows = rows })
  all_read rest others count answer rows c r a s h =
      ap (with_fault Malformed) (answered rest others count answer c r a s
      ∙ went (rows_from 0 others) (λ (made : List Row). Ok (record { version = count.0; count = count.1; answer = answer; rows = made })) rows h)

-- a certificate by its statement
pub cert_wrong : (records : List Fields) (e : ReadFault) → with_fault Malformed (statement_of false records) ≡ Err e → with_fault Malformed (cert_of_records records) ≡ Err e
unfolding cert_of_records
cert_wrong records e h = faulted (statement_of false records) (λ (s : Statement). cert_by s s.answer) e h

pub cert_made : (records : List Fields) (s : Statement) → with_fault Malformed (statement_of false records) ≡ Ok s → with_fault Malformed (cert_of_records records) ≡ with_fault Malformed (cert_by s s.answer)
unfolding cert_of_records
cert_made records s h = ap (with_fault Malformed) (went (statement_of false records) (λ (t : Statement). cert_by t t.answer) s h)

-- a call that returns what the definition gives
pub returned : {A : Type 0} (result definition : Result A ReadFault) → definition ≡ result → Returns (λ (x : A). x) result definition
returned (Ok x) definition e = e
returned (Err e) definition h = λ n. h
