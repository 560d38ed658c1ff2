-- What records spell: each definition gives a value exactly if the record is its text.
use Rattle.std.proofs.Common.{◌≡◌, inl, inr, ◌⊎◌, ℕ, ◌<◌, ◌^◌, Bool, true, false, List, [], ◌∷◌, refl, sym, ◌∙◌, ap, subst}
use Rattle.std.specs.Prelude.{◌==◌, Option, Some, None, codes}
use Rattle.std.specs.Fmt.{decimal}
use Rattle.std.specs.Option.{option_or, option_and_then}
use Rattle.std.specs.Str.{bytes_eq}
use Rattle.std.proofs.lemmas.Bool.{and_parts, eqb-true, eq-eqb}
use Rattle.std.proofs.lemmas.Option.{same_Some}
use Rattle.tables.specs.Records.{Fields}
use Rattle.tune_problem.specs.declared.cert.Row.{Row}
use Rattle.tune_problem.specs.declared.cert.Row.TheVariants.{Refused, Same, Cap}
use Rattle.tune_problem.specs.declared.statement.Answer.{Answer}
use Rattle.tune_problem.specs.declared.statement.Answer.TheVariants.{Best as TheBest, NoneFrom}
use Rattle.tune_cert.specs.CertText.{kind_text, last_text, row_fields, count_fields, best_fields, none_fields, answer_fields}
use Rattle.tune_cert.specs.Spelling.{FitsU32, IsVersion, IsRow, IsAnswer, decimal_of, version_of, listing_of, count_of, best_of, none_of, answer_of, row_by, row_of}
use Rattle.tune_cert.proofs.FieldTexts.{branch, held, zipped, changed, same_text, decimal_spelled, decimal_read, version_spelled, version_read, listing_spelled, listing_read}

three : (a b c d e f : List ℕ) → a ≡ d → b ≡ e → c ≡ f → ◌≡◌ {A = Fields} (a ∷ b ∷ c ∷ []) (d ∷ e ∷ f ∷ [])
three a b c d e f p q r = cc

-- an option that went on gave something first
gone_on : {A B : Type 0} (f : A → Option B) (o : Option A) (y : B) → option_and_then f o ≡ Some y → (x : A) × (o ≡ Some x) × (f x ≡ Some y)
gone_on f None y e = absurd (cc)
gone_on f (Some x) y e = (x, refl, e)

-- ---- the count

pub count_spelled : (fields : Fields) (x : ℕ × ℕ) → count_of fields ≡ Some x → IsVersion x.0 × FitsU32 x.1 × (fields ≡ count_fields x.0 x.1)
count_spelled (name ∷ version ∷ count ∷ []) x e =
    let h = held (bytes_eq name (codes "cwcert")) _ x e in
    let z = zipped (version_of version) (decimal_of count) x h.1 in
    let v = version_spelled version x.0 z.0 in
    let n = decimal_spelled count x.1 z.1 in
    (v.0, n.0, three _ _ _ _ _ _ (same_text name (codes "cwcert") h.0) v.1 n.1)
count_spelled [] x e = absurd (cc)
count_spelled (a ∷ []) x e = absurd (cc)
count_spelled (a ∷ b ∷ []) x e = absurd (cc)
count_spelled (a ∷ b ∷ c ∷ d ∷ more) x e = absurd (cc)

pub count_read : (version count : ℕ) → IsVersion version → FitsU32 count → count_of (count_fields version count) ≡ Some (version, count)
count_read version count v n = rw (version_read (decimal version) version v refl, decimal_read (decimal count) count n refl) refl

-- ---- the answer

pub best_spelled : (fields : Fields) (a : Answer) → best_of fields ≡ Some a
    → (best : ℕ) × (total : ℕ) × FitsU32 best × FitsU32 total × (a ≡ TheBest (record { vector = best; total = total })) × (fields ≡ best_fields best total)
best_spelled (name ∷ best ∷ total ∷ []) a e =
    let h = held (bytes_eq name (codes "best")) _ a e in
    let m = changed (λ (x : ℕ × ℕ). TheBest (record { vector = x.0; total = x.1 })) _ a h.1 in
    let z = zipped (decimal_of best) (decimal_of total) m.0 m.1 in
    let b = decimal_spelled best m.0.0 z.0 in
    let t = decimal_spelled total m.0.1 z.1 in
    (m.0.0, m.0.1, b.0, t.0, sym m.2, three _ _ _ _ _ _ (same_text name (codes "best") h.0) b.1 t.1)
best_spelled [] a e = absurd (cc)
best_spelled (x ∷ []) a e = absurd (cc)
best_spelled (x ∷ y ∷ []) a e = absurd (cc)
best_spelled (x ∷ y ∷ z ∷ w ∷ more) a e = absurd (cc)

none_spelled : (fields : Fields) (a : Answer) → none_of fields ≡ Some a → (floor : ℕ) × FitsU32 floor × (a ≡ NoneFrom floor) × (fields ≡ none_fields floor)
none_spelled (name ∷ dash ∷ floor ∷ []) a e =
    let h = held _ _ a e in
    let p = and_parts (bytes_eq name (codes "none")) (bytes_eq dash (codes "-")) h.0 in
    let m = changed (λ (f : ℕ). NoneFrom f) (decimal_of floor) a h.1 in
    let f = decimal_spelled floor m.0 m.1 in
    (m.0, f.0, sym m.2, three _ _ _ _ _ _ (same_text name (codes "none") p.0) (same_text dash (codes "-") p.1) f.1)
none_spelled [] a e = absurd (cc)
none_spelled (x ∷ []) a e = absurd (cc)
none_spelled (x ∷ y ∷ []) a e = absurd (cc)
none_spelled (x ∷ y ∷ z ∷ w ∷ more) a e = absurd (cc)

either_of : {A : Type 0} (a b : Option A) (x : A) → option_or a b ≡ Some x → (a ≡ Some x) ⊎ (b ≡ Some x)
either_of (Some y) b x e = inl e
either_of None b x e = inr e

-- an answer is its record
pub answer_spelled : (floors : Bool) (fields : Fields) (a : Answer) → answer_of floors fields ≡ Some a → IsAnswer a × (fields ≡ answer_fields a)
answer_spelled floors fields a e = elim (either_of (best_of fields) _ a e) [
  | inl best ↦
      let b = best_spelled fields a best in
      subst (λ (x : Answer). IsAnswer x × (fields ≡ answer_fields x)) (sym b.4) ((b.2, b.3), b.5)
  | inr other ↦
      let h = held floors (none_of fields) a other in
      let n = none_spelled fields a h.1 in
      subst (λ (x : Answer). IsAnswer x × (fields ≡ answer_fields x)) (sym n.2) (n.1, n.3)
]

-- with no floors it is a best setting
pub only_best : (fields : Fields) (a : Answer) → answer_of false fields ≡ Some a → best_of fields ≡ Some a
only_best fields a e = elim (either_of (best_of fields) None a e) [ inl best ↦ best | inr none ↦ absurd (cc) ]

pub best_read : (floors : Bool) (best total : ℕ) → FitsU32 best → FitsU32 total → answer_of floors (best_fields best total) ≡ Some (TheBest (record { vector = best; total = total }))
best_read floors best total b t = rw (decimal_read (decimal best) best b refl, decimal_read (decimal total) total t refl) refl

pub none_read : (floor : ℕ) → FitsU32 floor → answer_of true (none_fields floor) ≡ Some (NoneFrom floor)
none_read floor f = rw (decimal_read (decimal floor) floor f refl) refl

-- ---- rows

by_spelled : (kind last : List ℕ) (row : Row) → row_by kind last ≡ Some row → IsRow row × (kind ≡ kind_text row) × (last ≡ last_text row)
by_spelled kind last row e = elim (branch (bytes_eq kind (codes "refused")) _ _ _ e) [
  | inl refused ↦
      let d = held (bytes_eq last (codes "-")) (Some Refused) row refused.1 in
      subst (λ (r : Row). IsRow r × (kind ≡ kind_text r) × (last ≡ last_text r)) (same_Some _ _ d.1) (tt, same_text kind (codes "refused") refused.0, same_text last (codes "-") d.0)
  | inr others ↦ elim (branch (bytes_eq kind (codes "same")) _ _ _ others.1) [
    | inl same ↦
        let m = changed (λ (u : ℕ). Same u) (decimal_of last) row same.1 in
        let d = decimal_spelled last m.0 m.1 in
        subst (λ (r : Row). IsRow r × (kind ≡ kind_text r) × (last ≡ last_text r)) m.2 (d.0, same_text kind (codes "same") same.0, d.1)
    | inr more ↦
        let cap = held (bytes_eq kind (codes "cap")) _ row more.1 in
        let m = changed (λ (fights : List (ℕ × ℕ)). Cap fights) (listing_of last) row cap.1 in
        let l = listing_spelled last m.0 m.1 in
        subst (λ (r : Row). IsRow r × (kind ≡ kind_text r) × (last ≡ last_text r)) m.2 (l.each, same_text kind (codes "cap") cap.0, l.text_is)
  ]
]

by_read : (row : Row) → IsRow row → row_by (kind_text row) (last_text row) ≡ Some row
by_read Refused h = refl
by_read (Same u) h = rw (decimal_read (decimal u) u h refl) refl
by_read (Cap fights) h = rw (listing_read fights h) refl

pub row_spelled : (v : ℕ) (fields : Fields) (row : Row) → row_of v fields ≡ Some row → FitsU32 v × IsRow row × (fields ≡ row_fields v row)
row_spelled v (kind ∷ setting ∷ last ∷ []) row e =
    let t = gone_on _ (decimal_of setting) row e in
    let h = held (t.0 == v) (row_by kind last) row t.2 in
    let same : t.0 ≡ v = eqb-true t.0 v h.0 in
    let d = decimal_spelled setting t.0 t.1 in
    let r = by_spelled kind last row h.1 in
    (subst (λ (n : ℕ). n < 2 ^ 32) same d.0, r.0, three _ _ _ _ _ _ r.1 (d.1 ∙ ap decimal same) r.2)
row_spelled v [] row e = absurd (cc)
row_spelled v (a ∷ []) row e = absurd (cc)
row_spelled v (a ∷ b ∷ []) row e = absurd (cc)
row_spelled v (a ∷ b ∷ c ∷ d ∷ more) row e = absurd (cc)

pub row_read : (v : ℕ) (row : Row) → FitsU32 v → IsRow row → row_of v (row_fields v row) ≡ Some row
row_read v row small h = rw (decimal_read (decimal v) v small refl, eq-eqb v v refl) (by_read row h)
