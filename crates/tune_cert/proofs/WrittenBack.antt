-- What is written is read again.
use Rattle.std.proofs.Common.{◌≡◌, ℕ, zero, suc, ◌<◌, ◌≤◌, ◌+◌, List, [], ◌∷◌, ◌++◌, length, map, true, Ok, refl, ◌∙◌, ap, arith, length-append}
use Rattle.std.specs.Prelude.{if◌then◌else◌}
use Rattle.csv.specs.Reading.{default_config, records_from, strip_bom}
use Rattle.csv.specs.Writing.{default_writer, row_text, row_body, is_blank, fields_text, read_back}
use Rattle.csv.specs.declared.parser.State.TheVariants as st
use Rattle.csv.proofs.RoundTrip.{read-write}
use Rattle.tables.proofs.Reading.{none_left}
use Rattle.tables.specs.Records.{Fields, records_of}
use Rattle.tune_cert.specs.CertText.{rows_fields, row_fields, answer_fields, records_text, cert_text, statement_text, statement_fields, stated}
use Rattle.tune_cert.specs.Spelling.{IsCert, IsStatement, Spells, statement_of}
use Rattle.tune_problem.specs.declared.cert.Row.{Row}
use Rattle.tune_problem.specs.declared.cert.Cert.{Cert}
use Rattle.tune_problem.specs.declared.statement.Answer.{Answer}
use Rattle.tune_problem.specs.declared.statement.Answer.TheVariants.{Best as TheBest, NoneFrom}
use Rattle.tune_problem.specs.declared.statement.Statement.{Statement}
use Rattle.tune_cert.proofs.Statements.{with_floors, statement_read}

written_from : (records : List Fields) (n : ℕ) → length records ≤ n → records_from default_config n st.StartRecord (records_text records) ≡ map read_back records
unfolding records_from records_text
written_from [] n h = none_left default_config n
written_from (fields ∷ records) zero h = absurd (omega arith)
written_from (fields ∷ records) (suc n) h =
    rw (read-write fields (records_text records)) (ap (λ (t : List Fields). read_back fields ∷ t) (written_from records n (omega arith)))

row_some : (fields : Fields) → 0 < length (row_text default_writer fields)
row_some fields =
    let mark : List ℕ = if is_blank default_writer fields then 34 ∷ 34 ∷ [] else [] in
    omega (arith, length-append (row_body default_writer fields) (mark ++ 10 ∷ []), length-append mark (10 ∷ []))

enough_text : (records : List Fields) → length records ≤ length (records_text records)
unfolding records_text
enough_text [] = omega arith
enough_text (fields ∷ records) = omega (arith, enough_text records, row_some fields, length-append (row_text default_writer fields) (records_text records))

rows_back : (rows : List Row) (v : ℕ) → map read_back (rows_fields rows v) ≡ rows_fields rows v
unfolding rows_fields
rows_back [] v = refl
rows_back (row ∷ rows) v = ap (λ (t : List Fields). row_fields v row ∷ t) (rows_back rows (v + 1))

answer_back : (answer : Answer) → read_back (answer_fields answer) ≡ answer_fields answer
answer_back (TheBest best) = refl
answer_back (NoneFrom floor) = refl

statement_back : (s : Statement) → map read_back (statement_fields s) ≡ statement_fields s
unfolding statement_fields
statement_back s = rw (answer_back s.answer, rows_back s.rows 0) refl

-- a statement begins with no byte order mark
no_mark : (s : Statement) → strip_bom (statement_text s) ≡ statement_text s
unfolding statement_text statement_fields records_text strip_bom is_blank fields_text
no_mark s = refl

written_records : (s : Statement) → records_of (statement_text s) ≡ statement_fields s
unfolding records_of statement_text
written_records s =
    ap (λ (t : List ℕ). records_from default_config (length t + 1) st.StartRecord t) (no_mark s)
    ∙ written_from (statement_fields s) (length (records_text (statement_fields s)) + 1) (omega (arith, enough_text (statement_fields s)))
    ∙ statement_back s

pub written : (c : Cert) → IsCert c → Spells (records_of (cert_text c)) c
written c h = record { cert = h; text = written_records (stated c) }

pub written_statement : (s : Statement) → IsStatement s → statement_of true (records_of (statement_text s)) ≡ Ok s
written_statement s h = ap (statement_of true) (written_records s) ∙ statement_read true s h (with_floors s.answer)
