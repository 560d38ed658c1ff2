-- What is read is what is spelled, and a fault is at the first malformed record.
use Rattle.std.proofs.Common.{◌≡◌, inl, inr, ◌⊎◌, ℕ, zero, suc, ◌+◌, ◌<◌, ◌≤◌, ◌^◌, Bool, true, false, List, [], ◌∷◌, length, slice_get, refl, sym, ◌∙◌, ap, arith, subst}
use Rattle.std.specs.Prelude.{Option, Some, None, Result, Ok, Err, All}
use Rattle.std.specs.Option.{ok_or}
use Rattle.std.proofs.lemmas.List.Elements.{All-nil, All-cons, All-head, All-tail}
use Rattle.std.proofs.lemmas.Option.{same_Some, slice_get_within}
use Rattle.rc_instr.specs.Results.{and_then, ◌>>=◌}
use Rattle.rc_instr.proofs.Chains.{went_on}
use Rattle.tables.specs.Records.{Fields}
use Rattle.tune_problem.specs.declared.cert.Cert.{Cert}
use Rattle.tune_problem.specs.declared.cert.Row.{Row}
use Rattle.tune_problem.specs.declared.statement.Answer.{Answer}
use Rattle.tune_problem.specs.declared.statement.Answer.TheVariants.{Best as TheBest, NoneFrom}
use Rattle.tune_problem.specs.declared.statement.Statement.{Statement}
use Rattle.tune_problem.specs.declared.watcher.Best.{Best}
use Rattle.tune_cert.specs.CertText.{row_fields, rows_fields, answer_fields, statement_fields, cert_fields, stated}
use Rattle.tune_cert.specs.Spelling.{IsRow, IsAnswer, IsCert, IsStatement, Spells, HasForm, IsMalformed, IsFirstMalformed, count_of, answer_of, row_of, record_of, rows_from, statement_of, cert_by, cert_of_records}
use Rattle.tune_cert.proofs.Forms.{count_spelled, count_read, best_spelled, answer_spelled, only_best, best_read, none_read, row_spelled, row_read}

-- ---- steps

pub same_Ok : {A E : Type 0} (x y : A) → ◌≡◌ {A = Result A E} (Ok x) (Ok y) → x ≡ y
same_Ok x y e = cc

pub same_Err : {A E : Type 0} (x y : E) → ◌≡◌ {A = Result A E} (Err x) (Err y) → x ≡ y
same_Err x y e = cc

-- a chain with a fault has it from its first step or from what follows
pub stopped : {A B E : Type 0} (r : Result A E) (f : A → Result B E) (d : E) → and_then f r ≡ Err d → (r ≡ Err d) ⊎ ((x : A) × (r ≡ Ok x) × (f x ≡ Err d))
stopped (Ok x) f d e = inr (x, refl, e)
stopped (Err c) f d e = inl (ap Err (same_Err c d e))

some_of : {A : Type 0} (o : Option A) (n : ℕ) (x : A) → ok_or o n ≡ Ok x → o ≡ Some x
some_of (Some y) n x e = ap Some (same_Ok y x e)
some_of None n x e = absurd (cc)

none_of : {A : Type 0} (o : Option A) (n m : ℕ) → ok_or o n ≡ Err m → (o ≡ None) × (m ≡ n)
none_of (Some y) n m e = absurd (cc)
none_of None n m e = (refl, sym (same_Err n m e))

-- what follows the first record, and what follows the second
abbrev pub after_answer : List Fields → ℕ × ℕ → Answer → Result Statement ℕ
after_answer records first answer = rows_from 0 records >>= λ rows. Ok (record { version = first.0; count = first.1; answer = answer; rows = rows })

-- ---- rows

-- the records are these rows, of the settings from v on
record AreRows (v : ℕ) (records : List Fields) (rows : List Row) : Type 0 where
  pub text : records ≡ rows_fields rows v
  pub each : All IsRow rows
  pub few : v + length rows ≤ 2 ^ 32

begin_same : (a b : Fields) (xs ys : List Fields) → a ≡ b → xs ≡ ys → ◌≡◌ {A = List Fields} (a ∷ xs) (b ∷ ys)
begin_same a b xs ys e f = cc

rows_spelled : (records : List Fields) (v : ℕ) (rows : List Row) → v ≤ 2 ^ 32 → rows_from v records ≡ Ok rows → AreRows v records rows
unfolding rows_from rows_fields
rows_spelled [] v rows small e =
    let none : [] ≡ rows = same_Ok _ _ e in
    subst (λ (r : List Row). AreRows v [] r) none (record { text = refl; each = All-nil _; few = omega arith })
rows_spelled (fields ∷ records) v rows small e =
    let a = went_on (ok_or (row_of v fields) (record_of v)) (λ (row : Row). rows_from (v + 1) records >>= λ (more : List Row). Ok (row ∷ more)) rows e in
    let b = went_on (rows_from (v + 1) records) (λ (more : List Row). Ok (a.0 ∷ more)) rows a.2 in
    let row = row_spelled v fields a.0 (some_of (row_of v fields) (record_of v) a.0 a.1) in
    let fits : v < 2 ^ 32 = row.0 in
    let more = rows_spelled records (v + 1) b.0 (omega arith) b.1 in
    subst (λ (r : List Row). AreRows v (fields ∷ records) r) (same_Ok _ _ b.2) (record {
      text = begin_same fields (row_fields v a.0) records (rows_fields b.0 (v + 1)) row.2 more.text;
      each = All-cons IsRow a.0 b.0 row.1 more.each;
      few = omega (arith, more.few);
    })

rows_read : (rows : List Row) (v : ℕ) → All IsRow rows → v + length rows ≤ 2 ^ 32 → rows_from v (rows_fields rows v) ≡ Ok rows
unfolding rows_from rows_fields
rows_read [] v each few = refl
rows_read (row ∷ rows) v each few =
    let small : v < 2 ^ 32 = omega (arith, few) in
    rw (row_read v row small (All-head IsRow row rows each), rows_read rows (v + 1) (All-tail IsRow row rows each) (omega (arith, few))) refl

-- ---- statements

-- the answer can be read: `none,-,F` needs floors
abbrev pub IsReadable : Bool → Answer → Type 0
IsReadable floors (TheBest best) = Unit {0}
IsReadable floors (NoneFrom floor) = floors ≡ true

pub with_floors : (answer : Answer) → IsReadable true answer
with_floors (TheBest best) = tt
with_floors (NoneFrom floor) = refl

answer_read : (floors : Bool) (answer : Answer) → IsAnswer answer → IsReadable floors answer → answer_of floors (answer_fields answer) ≡ Some answer
answer_read floors (TheBest best) h allowed = best_read floors best.vector best.total h.0 h.1
answer_read floors (NoneFrom floor) h allowed = let is : floors ≡ true = allowed in rw is (none_read floor h)

pub statement_read : (floors : Bool) (s : Statement) → IsStatement s → IsReadable floors s.answer → statement_of floors (statement_fields s) ≡ Ok s
unfolding statement_of statement_fields
statement_read floors s h allowed = rw (count_read s.version s.count h.version h.count, answer_read floors s.answer h.answer allowed, rows_read s.rows 0 h.rows (omega (arith, h.few))) refl

-- the parts of what is read
record Parts (floors : Bool) (records : List Fields) (s : Statement) : Type 0 where
  pub first : Fields
  pub second : Fields
  pub others : List Fields
  pub records_are : records ≡ first ∷ second ∷ others
  pub count : count_of first ≡ Some (s.version, s.count)
  pub answer : answer_of floors second ≡ Some s.answer
  pub rows : rows_from 0 others ≡ Ok s.rows

parts : (floors : Bool) (records : List Fields) (s : Statement) → statement_of floors records ≡ Ok s → Parts floors records s
unfolding statement_of
parts floors [] s e = absurd (cc)
parts floors (first ∷ []) s e =
    let a = went_on (ok_or (count_of first) 0) (λ (x : ℕ × ℕ). Err 1) s e in
    absurd (let no = a.2 in cc)
parts floors (first ∷ second ∷ others) s e =
    let a = went_on (ok_or (count_of first) 0) (λ (x : ℕ × ℕ). ok_or (answer_of floors second) 1 >>= after_answer others x) s e in
    let b = went_on (ok_or (answer_of floors second) 1) (after_answer others a.0) s a.2 in
    let c = went_on (rows_from 0 others) (λ (rows : List Row). Ok (record { version = a.0.0; count = a.0.1; answer = b.0; rows = rows })) s b.2 in
    subst (λ (t : Statement). Parts floors (first ∷ second ∷ others) t) (same_Ok (record { version = a.0.0; count = a.0.1; answer = b.0; rows = c.0 }) s c.2) (record {
      first = first;
      second = second;
      others = others;
      records_are = refl;
      count = some_of (count_of first) 0 a.0 a.1;
      answer = some_of (answer_of floors second) 1 b.0 b.1;
      rows = c.1;
    })

pub statement_spelled : (floors : Bool) (records : List Fields) (s : Statement) → statement_of floors records ≡ Ok s → IsStatement s × (records ≡ statement_fields s)
unfolding statement_fields
statement_spelled floors records s e =
    let p = parts floors records s e in
    let c = count_spelled p.first (s.version, s.count) p.count in
    let a = answer_spelled floors p.second s.answer p.answer in
    let r = rows_spelled p.others 0 s.rows (omega arith) p.rows in (
      record { version = c.0; count = c.1; answer = a.0; rows = r.each; few = omega (arith, r.few) },
      p.records_are ∙ begin_same p.first _ (p.second ∷ p.others) _ c.2 (begin_same p.second _ p.others _ a.1 r.text),
    )

-- ---- certificates

pub cert_read : (records : List Fields) (c : Cert) → Spells records c → cert_of_records records ≡ Ok c
unfolding cert_of_records
cert_read records c s = rw (s.text, statement_read false (stated c) s.cert tt) refl

abbrev with_answer : Statement → Answer → Statement
with_answer s a = record { version = s.version; count = s.count; answer = a; rows = s.rows }

pub by_answer : (s : Statement) (a : Answer) (c : Cert) → s.answer ≡ a → cert_by s a ≡ Ok c → s ≡ stated c
by_answer s (TheBest best) c is e =
    subst (λ (d : Cert). s ≡ stated d) (same_Ok _ c e) (ap (λ (x : Answer). with_answer s x) is)
by_answer s (NoneFrom floor) c is e = absurd (cc)

-- what is read without floors names a best setting
pub names_best : (records : List Fields) (s : Statement) → statement_of false records ≡ Ok s → (best : Best) × (s.answer ≡ TheBest best)
names_best records s e =
    let p = parts false records s e in
    let b = best_spelled p.second s.answer (only_best p.second s.answer p.answer) in
    (record { vector = b.0; total = b.1 }, b.4)

-- records spell at most one certificate
pub one_spelled : (records : List Fields) (c d : Cert) → Spells records c → Spells records d → c ≡ d
one_spelled records c d s t = same_Ok c d (sym (cert_read records c s) ∙ cert_read records d t)

pub cert_spelled : (records : List Fields) (c : Cert) → cert_of_records records ≡ Ok c → Spells records c
unfolding cert_of_records
cert_spelled records c e =
    let w = went_on (statement_of false records) (λ (s : Statement). cert_by s s.answer) c e in
    let same : w.0 ≡ stated c = by_answer w.0 w.0.answer c refl w.2 in
    let p = statement_spelled false records (stated c) (w.1 ∙ ap Ok same) in
    record { cert = p.0; text = p.1 }

-- ---- malformed records

has_count : (fields : Fields) (x : ℕ × ℕ) → count_of fields ≡ Some x → HasForm 0 fields
has_count fields x e =
    let c = count_spelled fields x e in
    (x.0, x.1, c.0, c.1, c.2)

no_count : (fields : Fields) → count_of fields ≡ None → ¬ (HasForm 0 fields)
no_count fields e h = let is = ap count_of h.4 in let read = count_read h.0 h.1 h.2 h.3 in absurd (cc (e, is, read))

has_best : (fields : Fields) (a : Answer) → answer_of false fields ≡ Some a → HasForm 1 fields
has_best fields a e =
    let b = best_spelled fields a (only_best fields a e) in
    (b.0, b.1, b.2, b.3, b.5)

no_best : (fields : Fields) → answer_of false fields ≡ None → ¬ (HasForm 1 fields)
no_best fields e h = let is = ap (answer_of false) h.4 in let read = best_read false h.0 h.1 h.2 h.3 in absurd (cc (e, is, read))

has_row : (v : ℕ) (fields : Fields) (row : Row) → row_of v fields ≡ Some row → HasForm (suc (suc v)) fields
has_row v fields row e =
    let r = row_spelled v fields row e in
    (row, r.0, r.1, r.2)

no_row : (v : ℕ) (fields : Fields) → row_of v fields ≡ None → ¬ (HasForm (suc (suc v)) fields)
no_row v fields e h = let is = ap (row_of v) h.3 in let read = row_read v h.0 h.1 h.2 in absurd (cc (e, is, read))

-- the first record, of the settings from v on, that is not a row
record Stops (v : ℕ) (records : List Fields) (index : ℕ) : Type 0 where
  pub k : ℕ
  pub index_is : index ≡ suc (suc (v + k))
  pub fields : Fields
  pub here : slice_get records k ≡ Some fields
  pub bad : (w : ℕ) → w ≡ v + k → ¬ (HasForm (suc (suc w)) fields)
  pub before : (j w : ℕ) → j < k → w ≡ v + j → (f : Fields) × (slice_get records j ≡ Some f) × HasForm (suc (suc w)) f

stop_later : (v n : ℕ) (fields : Fields) (records : List Fields) → HasForm (suc (suc v)) fields → Stops (v + 1) records n → Stops v (fields ∷ records) n
stop_later v n fields records form s = record {
  k = suc s.k;
  index_is = omega (arith, s.index_is);
  fields = s.fields;
  here = s.here;
  bad = λ w e. s.bad w (omega (arith, e));
  before = earlier;
}
  where
    earlier : (j w : ℕ) → j < suc s.k → w ≡ v + j → (f : Fields) × (slice_get (fields ∷ records) j ≡ Some f) × HasForm (suc (suc w)) f
    earlier zero w l e = let is : v ≡ w = omega (arith, e) in (fields, refl, subst (λ (u : ℕ). HasForm (suc (suc u)) fields) is form)
    earlier (suc j) w l e = s.before j w (omega arith) (omega (arith, e))

rows_stop : (records : List Fields) (v n : ℕ) → rows_from v records ≡ Err n → Stops v records n
unfolding rows_from
rows_stop [] v n e = absurd (cc)
rows_stop (fields ∷ records) v n e =
    elim (stopped (ok_or (row_of v fields) (record_of v)) (λ (row : Row). rows_from (v + 1) records >>= λ (more : List Row). Ok (row ∷ more)) n e) [
      | inl here ↦
          let none = none_of (row_of v fields) (record_of v) n here in
          record {
            k = 0;
            index_is = omega (arith, none.1);
            fields = fields;
            here = refl;
            bad = λ w e. let is : v ≡ w = omega (arith, e) in subst (λ (u : ℕ). ¬ (HasForm (suc (suc u)) fields)) is (no_row v fields none.0);
            before = λ j w l e. absurd (omega arith);
          }
      | inr on ↦
          let row = some_of (row_of v fields) (record_of v) on.0 on.1 in
          elim (stopped (rows_from (v + 1) records) (λ (more : List Row). Ok (on.0 ∷ more)) n on.2) [
            | inl later ↦ stop_later v n fields records (has_row v fields on.0 row) (rows_stop records (v + 1) n later)
            | inr more ↦ absurd (let e = more.2 in cc)
          ]
    ]

-- a record that is there and has its form is not malformed
well_formed : (records : List Fields) (index : ℕ) (fields : Fields) → slice_get records index ≡ Some fields → HasForm index fields → ¬ (IsMalformed records index)
well_formed records index fields at form (inl missing) = absurd (omega (arith, missing.1, slice_get_within records index fields at))
well_formed records index fields at form (inr bad) =
    let same : fields ≡ bad.0 = let e = bad.1 in cc in
    bad.2 (subst (λ (f : Fields). HasForm index f) same form)

-- no record is before the first, and the first alone is before the second
none_before : (records : List Fields) (k : ℕ) → k < 0 → ¬ (IsMalformed records k)
none_before records k l = absurd (omega arith)

first_before : (records : List Fields) (first : Fields) → HasForm 0 first → (k : ℕ) → k < 1 → ¬ (IsMalformed (first ∷ records) k)
first_before records first form zero l = well_formed (first ∷ records) 0 first refl form
first_before records first form (suc k) l = absurd (omega arith)

-- the records before a row that stops
rows_before : (first second : Fields) (others : List Fields) (n : ℕ) → HasForm 0 first → HasForm 1 second → (s : Stops 0 others n)
    → (k : ℕ) → k < suc (suc s.k) → ¬ (IsMalformed (first ∷ second ∷ others) k)
rows_before first second others n a b s zero l = well_formed (first ∷ second ∷ others) 0 first refl a
rows_before first second others n a b s (suc zero) l = well_formed (first ∷ second ∷ others) 1 second refl b
rows_before first second others n a b s (suc (suc j)) l =
    let here = s.before j j (omega arith) (omega arith) in
    well_formed (first ∷ second ∷ others) (suc (suc j)) here.0 here.1 here.2

row_malformed : (first second : Fields) (others : List Fields) (n : ℕ) → HasForm 0 first → HasForm 1 second → Stops 0 others n → IsFirstMalformed (first ∷ second ∷ others) n
row_malformed first second others n a b s =
    let at : n ≡ suc (suc s.k) = omega (arith, s.index_is) in
    subst (λ (m : ℕ). IsFirstMalformed (first ∷ second ∷ others) m) (sym at) (record {
      malformed = inr (s.fields, s.here, s.bad s.k (omega arith));
      first = rows_before first second others n a b s;
    })

malformed_at : (records : List Fields) (n m : ℕ) → m ≡ n → IsFirstMalformed records n → IsFirstMalformed records m
malformed_at records n m e h = rw e h

pub statement_malformed : (records : List Fields) (n : ℕ) → statement_of false records ≡ Err n → IsFirstMalformed records n
unfolding statement_of
statement_malformed [] n e = malformed_at [] 0 n (sym (same_Err _ _ e)) (record { malformed = inl (omega arith, omega arith); first = none_before [] })
statement_malformed (first ∷ []) n e = elim (stopped (ok_or (count_of first) 0) (λ (x : ℕ × ℕ). Err 1) n e) [
  | inl at ↦
      let none = none_of (count_of first) 0 n at in
      malformed_at (first ∷ []) 0 n none.1 (record { malformed = inr (first, refl, no_count first none.0); first = none_before (first ∷ []) })
  | inr on ↦
      let form = has_count first on.0 (some_of (count_of first) 0 on.0 on.1) in
      malformed_at (first ∷ []) 1 n (sym (same_Err _ _ on.2)) (record { malformed = inl (omega arith, omega arith); first = first_before [] first form })
]
statement_malformed (first ∷ second ∷ others) n e = elim (stopped (ok_or (count_of first) 0) (λ (x : ℕ × ℕ). ok_or (answer_of false second) 1 >>= after_answer others x) n e) [
  | inl at ↦
      let none = none_of (count_of first) 0 n at in
      malformed_at (first ∷ second ∷ others) 0 n none.1 (record { malformed = inr (first, refl, no_count first none.0); first = none_before (first ∷ second ∷ others) })
  | inr on ↦
      let form = has_count first on.0 (some_of (count_of first) 0 on.0 on.1) in
      elim (stopped (ok_or (answer_of false second) 1) (after_answer others on.0) n on.2) [
        | inl at ↦
            let none = none_of (answer_of false second) 1 n at in
            malformed_at (first ∷ second ∷ others) 1 n none.1 (record { malformed = inr (second, refl, no_best second none.0); first = first_before (second ∷ others) first form })
        | inr further ↦
            let best = has_best second further.0 (some_of (answer_of false second) 1 further.0 further.1) in
            elim (stopped (rows_from 0 others) (λ (rows : List Row). Ok (record { version = on.0.0; count = on.0.1; answer = further.0; rows = rows })) n further.2) [
              | inl at ↦ row_malformed first second others n form best (rows_stop others 0 n at)
              | inr made ↦ absurd (let made = made.2 in cc)
            ]
      ]
]

no_best_answer : (s : Statement) (a : Answer) (n : ℕ) → cert_by s a ≡ Err n → (floor : ℕ) × (a ≡ NoneFrom floor)
no_best_answer s (TheBest best) n e = absurd (cc)
no_best_answer s (NoneFrom floor) n e = (floor, refl)

pub cert_malformed : (records : List Fields) (n : ℕ) → cert_of_records records ≡ Err n → IsFirstMalformed records n
unfolding cert_of_records
cert_malformed records n e = elim (stopped (statement_of false records) (λ (s : Statement). cert_by s s.answer) n e) [
  | inl at ↦ statement_malformed records n at
  | inr on ↦
      let none = no_best_answer on.0 on.0.answer n on.2 in
      let named = names_best records on.0 on.1 in
      absurd (let is = none.1 in let best = named.1 in cc (is, best))
]

-- there is one first malformed record
one_first : (records : List Fields) (n m : ℕ) → IsFirstMalformed records n → IsFirstMalformed records m → n ≡ m
one_first records n m a b =
    let less : ¬ (n < m) = λ l. b.first n l a.malformed in
    let more : ¬ (m < n) = λ l. a.first m l b.malformed in
    omega (arith, less, more)

-- rows have their forms
row_form : (rows : List Row) (v k : ℕ) (fields : Fields) → All IsRow rows → v + length rows ≤ 2 ^ 32 → slice_get (rows_fields rows v) k ≡ Some fields → (w : ℕ) → w ≡ v + k → HasForm (suc (suc w)) fields
unfolding rows_fields
row_form [] v k fields each few e w is = absurd (cc)
row_form (row ∷ rows) v zero fields each few e w is =
    let small : w < 2 ^ 32 = omega (arith, is, few) in
    let same : v ≡ w = omega (arith, is) in
    let at : fields ≡ row_fields v row = sym (same_Some _ _ e) in
    (row, small, All-head IsRow row rows each, at ∙ ap (λ (n : ℕ). row_fields n row) same)
row_form (row ∷ rows) v (suc k) fields each few e w is = row_form rows (v + 1) k fields (All-tail IsRow row rows each) (omega (arith, few)) e w (omega (arith, is))

form_at : (c : Cert) (k : ℕ) (fields : Fields) → IsCert c → slice_get (cert_fields c) k ≡ Some fields → HasForm k fields
unfolding statement_fields
form_at c zero fields h e = (c.version, c.count, h.version, h.count, sym (same_Some _ _ e))
form_at c (suc zero) fields h e = (c.best, c.total, h.answer.0, h.answer.1, sym (same_Some _ _ e))
form_at c (suc (suc k)) fields h e = row_form c.rows 0 k fields h.rows (omega (arith, h.few)) e k (omega arith)

two_records : (c : Cert) (n : ℕ) → n < 2 → length (cert_fields c) ≤ n → ⊥
unfolding statement_fields
two_records c n small l = omega arith

-- a certificate has no malformed record
pub none_malformed : (records : List Fields) (c : Cert) → Spells records c → (k : ℕ) → IsMalformed records k → ⊥
none_malformed records c s k (inl missing) = two_records c k missing.0 (subst (λ (r : List Fields). length r ≤ k) s.text missing.1)
none_malformed records c s k (inr bad) = bad.2 (form_at c k bad.0 s.cert (subst (λ (r : List Fields). slice_get r k ≡ Some bad.0) s.text bad.1))

pub malformed_read : (records : List Fields) (n : ℕ) → IsFirstMalformed records n → cert_of_records records ≡ Err n
malformed_read records n h = by (cert_of_records records) refl
  where
    by : (r : Result Cert ℕ) → cert_of_records records ≡ r → cert_of_records records ≡ Err n
    by (Err m) e = e ∙ ap Err (one_first records m n (cert_malformed records m e) h)
    by (Ok c) e = absurd (none_malformed records c (cert_spelled records c e) n h.malformed)
