-- The first wrong row of some settings, and the first failure of a certificate.
use Rattle.std.proofs.Common.{◌≡◌, ◌⊎◌, inl, inr, ℕ, zero, suc, ◌+◌, ◌<◌, ◌≤◌, arith, Bool, true, false, List, [], ◌∷◌, Option, Some, None, refl, sym, ◌∙◌, ap, subst}
use Rattle.std.specs.List.{range_with_len, slice_get, list_all}
use Rattle.std.specs.Prelude.{option_and_then}
use Rattle.std.proofs.lemmas.Bool.{and_from, and_parts}
use Rattle.tune_problem.specs.declared.cert.Row.{Row}
use Rattle.tune_problem.proofs.CapRows.{above}
use Rattle.tune_problem.proofs.Certificates.{some_is}
use Rattle.tune_cert.specs.Checks.{reason_at, first_wrong, first_of, at_record, unless}
use Rattle.tune_cert.specs.Spelling.{record_of}
use Rattle.tune_cert.specs.declared.verdict.Reason.{Reason}
use Rattle.tune_cert.specs.declared.verdict.Reason.TheVariants.{RowCount, BestRow, Version}

pub both_none : {A : Type 0} (x y : Option A) → first_of (x ∷ y ∷ []) ≡ None → (x ≡ None) × (y ≡ None)
both_none None None e = (refl, refl)
both_none None (Some b) e = absurd (cc)
both_none (Some a) y e = absurd (cc)

no_record : (n : ℕ) (o : Option Reason) → at_record n o ≡ None → o ≡ None
no_record n None e = refl
no_record n (Some r) e = absurd (cc)

same_pair : (n m : ℕ) (r s : Reason) → ◌≡◌ {A = Option (ℕ × Reason)} (Some (n, r)) (Some (m, s)) → (m ≡ n) × (s ≡ r)
same_pair n m r s e =
    let x : ℕ × Reason = (n, r) in
    let y : ℕ × Reason = (m, s) in
    let pair : y ≡ x = some_is y x (sym e) in
    (ap (λ (z : ℕ × Reason). z.0) pair, ap (λ (z : ℕ × Reason). z.1) pair)

module _ (f : ℕ → Option Reason) where
  pub none_each : (n a : ℕ) → first_wrong f (range_with_len a n) ≡ None → (v : ℕ) → a ≤ v → v < a + n → f v ≡ None
  none_each zero a e v low high = absurd (omega (arith, low, high))
  none_each (suc n) a e v low high =
      let parts = both_none _ _ e in
      elim (above a v low) [
        | inl same ↦ ap f same ∙ no_record _ _ parts.0
        | inr more ↦ none_each n (a + 1) parts.1 v more (omega (arith, high))
      ]

  pub each_none : (n a : ℕ) → ((v : ℕ) → a ≤ v → v < a + n → f v ≡ None) → first_wrong f (range_with_len a n) ≡ None
  each_none zero a h = refl
  each_none (suc n) a h =
      let here : f a ≡ None = h a (omega arith) (omega arith) in
      let rest = each_none n (a + 1) (λ v low high. h v (omega (arith, low)) (omega (arith, high))) in
      ap (λ o. first_of (at_record (record_of a) o ∷ first_wrong f (range_with_len (a + 1) n) ∷ [])) here ∙ ap (λ o. first_of (None ∷ o ∷ [])) rest

  -- the first wrong one is wrong, and none before it is
  pub record IsFound (a n index : ℕ) (reason : Reason) : Type 0 where
    pub vector : ℕ
    pub low : a ≤ vector
    pub high : vector < a + n
    pub index_is : index ≡ record_of vector
    pub wrong : f vector ≡ Some reason
    pub before : (u : ℕ) → a ≤ u → u < vector → f u ≡ None

  step : (n a index : ℕ) (reason : Reason) (o : Option Reason) → f a ≡ o → first_of (at_record (record_of a) o ∷ first_wrong f (range_with_len (a + 1) n) ∷ []) ≡ Some (index, reason)
      → (first_wrong f (range_with_len (a + 1) n) ≡ Some (index, reason) → IsFound (a + 1) n index reason) → IsFound a (suc n) index reason
  step n a index reason (Some r) is e later =
      let pair = same_pair _ _ _ _ e in
      let here : index ≡ record_of a = pair.0 in
      let same : r ≡ reason = sym pair.1 in
      record {
        vector = a;
        low = omega arith;
        high = omega arith;
        index_is = here;
        wrong = is ∙ ap (λ (x : Reason). Some x) same;
        before = λ u low l. absurd (omega (arith, low, l));
      }
  step n a index reason None is e later =
      let i = later (only (first_wrong f (range_with_len (a + 1) n)) e) in
      let low = i.low in
      let high = i.high in
      record {
        vector = i.vector;
        low = omega (arith, low);
        high = omega (arith, high);
        index_is = i.index_is;
        wrong = i.wrong;
        before = λ u l m. elim (above a u l) [ inl same ↦ ap f same ∙ is | inr more ↦ i.before u more m ];
      }
    where
      only : (o : Option (ℕ × Reason)) → first_of (None ∷ o ∷ []) ≡ Some (index, reason) → o ≡ Some (index, reason)
      only None h = absurd (cc)
      only (Some x) h = h

  pub found : (n a index : ℕ) (reason : Reason) → first_wrong f (range_with_len a n) ≡ Some (index, reason) → IsFound a n index reason
  found zero a index reason e = absurd (cc)
  found (suc n) a index reason e = step n a index reason (f a) refl e (found n (a + 1) index reason)

-- the rows are checked twice: the second time for those that refer to others
pub two_walks_some : {A : Type 0} (x y : Option A) (z : A) → first_of (x ∷ y ∷ []) ≡ Some z → (x ≡ Some z) ⊎ ((x ≡ None) × (y ≡ Some z))
two_walks_some (Some a) y z e = inl e
two_walks_some None (Some b) z e = inr (refl, e)
two_walks_some None None z e = absurd (cc)

-- what is wrong with the row of v
pub reason_here : (check : ℕ → Row → Option Reason) (rows : List Row) (v : ℕ) (row : Row) (o : Option Reason) → slice_get rows v ≡ Some row → reason_at check rows v ≡ o → check v row ≡ o
reason_here check rows v row o at e = subst (λ (r : Option Row). option_and_then (check v) r ≡ o) at e

pub here_reason : (check : ℕ → Row → Option Reason) (rows : List Row) (v : ℕ) (o : Option Reason) → ((row : Row) → slice_get rows v ≡ Some row → check v row ≡ o) → o ≡ None
    → reason_at check rows v ≡ None
here_reason check rows v o h none = by_row (slice_get rows v) refl
  where
    by_row : (r : Option Row) → slice_get rows v ≡ r → reason_at check rows v ≡ None
    by_row None e = rw e refl
    by_row (Some row) e = rw e (h row e ∙ none)

pub wrong_row : (check : ℕ → Row → Option Reason) (rows : List Row) (v : ℕ) (reason : Reason) → reason_at check rows v ≡ Some reason → (row : Row) × (slice_get rows v ≡ Some row) × (check v row ≡ Some reason)
wrong_row check rows v reason e = by_row (slice_get rows v) refl
  where
    by_row : (r : Option Row) → slice_get rows v ≡ r → (row : Row) × (slice_get rows v ≡ Some row) × (check v row ≡ Some reason)
    by_row None i = let nothing : None ≡ Some reason = subst (λ (r : Option Row). option_and_then (check v) r ≡ Some reason) i e in absurd (cc)
    by_row (Some row) i = (row, i, reason_here check rows v row (Some reason) i e)

-- ---- the checks of a certificate

abbrev pub chain : Bool → Bool → Bool → Option (ℕ × Reason) → Option (ℕ × Reason)
chain a b d o = first_of (at_record 0 (unless a Version) ∷ at_record 0 (unless b RowCount) ∷ at_record 1 (unless d BestRow) ∷ o ∷ [])

pub chain_none : (a b d : Bool) (o : Option (ℕ × Reason)) → chain a b d o ≡ None
    → (a ≡ true) × (b ≡ true) × (d ≡ true) × (o ≡ None)
chain_none true true true None e = (refl, refl, refl, refl)
chain_none true true true (Some x) e = absurd (cc)
chain_none true true false o e = absurd (cc)
chain_none true false d o e = absurd (cc)
chain_none false b d o e = absurd (cc)

-- which check is the first to fail
pub data Chain (a b d : Bool) (o : Option (ℕ × Reason)) (index : ℕ) (reason : Reason) : Type 0 where
  at_version : a ≡ false → index ≡ 0 → reason ≡ Version → Chain a b d o index reason
  at_count : a ≡ true → b ≡ false → index ≡ 0 → reason ≡ RowCount → Chain a b d o index reason
  at_best : a ≡ true → b ≡ true → d ≡ false → index ≡ 1 → reason ≡ BestRow → Chain a b d o index reason
  at_rows : a ≡ true → b ≡ true → d ≡ true → o ≡ Some (index, reason) → Chain a b d o index reason

pub chain_some : (a b d : Bool) (o : Option (ℕ × Reason)) (index : ℕ) (reason : Reason)
    → chain a b d o ≡ Some (index, reason) → Chain a b d o index reason
chain_some false b d o index reason e = let p = same_pair _ _ _ _ e in at_version refl p.0 p.1
chain_some true false d o index reason e = let p = same_pair _ _ _ _ e in at_count refl refl p.0 p.1
chain_some true true false o index reason e = let p = same_pair _ _ _ _ e in at_best refl refl refl p.0 p.1
chain_some true true true None index reason e = absurd (cc)
chain_some true true true (Some x) index reason e = at_rows refl refl refl e

-- ---- a test of all fights

pub all_each : (f : ℕ → Bool) (n a : ℕ) → list_all f (range_with_len a n) ≡ true → (k : ℕ) → a ≤ k → k < a + n → f k ≡ true
all_each f zero a e k low high = absurd (omega (arith, low, high))
all_each f (suc n) a e k low high =
    let parts = and_parts _ _ e in
    elim (above a k low) [
      | inl same ↦ ap f same ∙ parts.0
      | inr more ↦ all_each f n (a + 1) parts.1 k more (omega (arith, high))
    ]

pub each_all : (f : ℕ → Bool) (n a : ℕ) → ((k : ℕ) → a ≤ k → k < a + n → f k ≡ true) → list_all f (range_with_len a n) ≡ true
each_all f zero a h = refl
each_all f (suc n) a h = and_from _ _ (h a (omega arith) (omega arith)) (each_all f n (a + 1) (λ k low high. h k (omega (arith, low)) (omega (arith, high))))
