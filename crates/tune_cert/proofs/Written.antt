-- Rows, written one after another.
use Rattle.std.proofs.Common.{◌≡◌, ℕ, ◌<◌, ◌+◌, List, [], ◌∷◌, ◌++◌, length, drop, get_or, refl, sym, ◌∙◌, ap, append_assoc, append-nil, add-one}
use Rattle.std.proofs.Math.Seq.{drop-cons}
use Rattle.csv.specs.Writing.{default_writer, row_text}
use Rattle.tune_cert.specs.CertText.{rows_fields, row_fields, count_fields, answer_fields, records_text, statement_text, statement_fields}
use Rattle.tune_problem.specs.declared.statement.Statement.{Statement}
use Rattle.tune_problem.specs.declared.cert.Row.{Row}

rows_step : (rows : List Row) (i n : ℕ) (row : Row) → i < length rows → row ≡ get_or rows i row
    → records_text (rows_fields (drop i rows) n) ≡ row_text default_writer (row_fields n row) ++ records_text (rows_fields (drop (i + 1) rows) (n + 1))
unfolding records_text rows_fields
rows_step rows i n row l e = rw (add-one i, drop-cons rows i row l, ← e) refl

pub row_written : (rows : List Row) (i n : ℕ) (row : Row) (old new whole : List ℕ) → i < length rows → row ≡ get_or rows i row → new ≡ old ++ row_text default_writer (row_fields n row)
    → old ++ records_text (rows_fields (drop i rows) n) ≡ whole → new ++ records_text (rows_fields (drop (i + 1) rows) (n + 1)) ≡ whole
row_written rows i n row old new whole l e w h =
    ap (λ (t : List ℕ). t ++ records_text (rows_fields (drop (i + 1) rows) (n + 1))) w
    ∙ append_assoc old (row_text default_writer (row_fields n row)) (records_text (rows_fields (drop (i + 1) rows) (n + 1)))
    ∙ ap (λ (t : List ℕ). old ++ t) (sym (rows_step rows i n row l e)) ∙ h

none_left : (rows : List Row) (i : ℕ) → length rows ≡ i → drop i rows ≡ []
none_left [] i e = rw (sym e) refl
none_left (row ∷ rows) i e = rw (sym e) (none_left rows (length rows) refl)

pub all_written : (rows : List Row) (i n : ℕ) (text whole : List ℕ) → length rows ≡ i → text ++ records_text (rows_fields (drop i rows) n) ≡ whole → text ≡ whole
unfolding records_text rows_fields
all_written rows i n text whole e h =
    let none = none_left rows i e in
    sym (append-nil text) ∙ ap (λ (r : List Row). text ++ records_text (rows_fields r n)) (sym none) ∙ h

pub whole_text : (s : Statement) (a b text : List ℕ) → a ≡ row_text default_writer (count_fields s.version s.count) → b ≡ a ++ row_text default_writer (answer_fields s.answer) → text ≡ b ++ records_text (rows_fields s.rows 0) → text ≡ statement_text s
unfolding statement_text statement_fields records_text
whole_text s a b text p q r =
    r ∙ ap (λ (t : List ℕ). t ++ records_text (rows_fields s.rows 0)) (q ∙ ap (λ (t : List ℕ). t ++ row_text default_writer (answer_fields s.answer)) p)
    ∙ append_assoc (row_text default_writer (count_fields s.version s.count)) (row_text default_writer (answer_fields s.answer)) (records_text (rows_fields s.rows 0))
