-- The setting at an index.
use Rattle.std.proofs.Common.{◌≡◌, ℕ, zero, suc, ◌+◌, ◌*◌, ◌/◌, ◌%◌, ◌<◌, ◌≤◌, List, [], ◌∷◌, ◌++◌, length, map, Option, Some, None, refl, sym, ◌∙◌, ap, arith, append_assoc, subst, length-append}
use Rattle.std.specs.Prelude.{ℤ, flat_map, slice_get, option_map, All}
use Rattle.std.proofs.lemmas.List.{length-map}
use Rattle.std.proofs.lemmas.List.Concat.{flat_map-cons}
use Rattle.std.proofs.lemmas.Option.{slice_get-map}
use Rattle.std.proofs.lemmas.List.Elements.{All-rest}
use Rattle.std.proofs.Math.Nat.{mul-div_cancel_left, mod-lt, div-lt_iff_lt-mul, mul-le-mul_right}
use Rattle.std.proofs.lemmas.Nat.{div-add-mod'}
use Rattle.tune_template.specs.declared.span.Span.{Span}
use Rattle.tune_template.specs.Limits.{MOST_CONSTANTS}
use Rattle.tune_template.specs.Spans.{span_value, values_from}
use Rattle.tune_template.specs.Ranges.{vector_count}
use Rattle.tune_template.specs.Vectors.{vectors_of, start_vector, start_index}
use Rattle.tune_template.specs.Steps.{HasValues}

get_left : {A : Type 0} (xs ys : List A) (i : ℕ) → i < length xs → slice_get (xs ++ ys) i ≡ slice_get xs i
get_left [] ys i h = absurd (omega (arith, h))
get_left (x ∷ xs) ys zero h = refl
get_left (x ∷ xs) ys (suc i) h = get_left xs ys i (omega (arith, h))

get_right : {A : Type 0} (xs ys : List A) (i n : ℕ) → n ≡ length xs + i → slice_get (xs ++ ys) n ≡ slice_get ys i
get_right [] ys i n h = let e : n ≡ i = omega (arith, h) in ap (slice_get ys) e
get_right (x ∷ xs) ys i zero h = absurd (omega (arith, h))
get_right (x ∷ xs) ys i (suc n) h = get_right xs ys i n (omega (arith, h))

module _ (f : ℤ → List (List ℤ)) (n : ℕ) (same : (x : ℤ) → length (f x) ≡ n) where
  -- n pieces of equal length
  pieces_len : (s : Span) (k m : ℕ) → length (flat_map f (values_from s k m)) ≡ m * n
  pieces_len s k zero = let z : 0 ≡ 0 * n = omega arith in z
  pieces_len s k (suc m) =
      ap length (flat_map-cons f (span_value s k) (values_from s (suc k) m))
      ∙ (length_append (f (span_value s k)) (flat_map f (values_from s (suc k) m)) ∙ sum (length (f (span_value s k))) (length (flat_map f (values_from s (suc k) m))) (same (span_value s k)) (pieces_len s (suc k) m))
    where
      length_append : (xs ys : List (List ℤ)) → length (xs ++ ys) ≡ length xs + length ys
      length_append [] ys = omega arith
      length_append (x ∷ xs) ys = let e = length_append xs ys in omega (arith, e)

      sum : (a b : ℕ) → a ≡ n → b ≡ m * n → a + b ≡ suc m * n
      sum a b ea eb = ap (λ x. x + b) ea ∙ (ap (λ y. n + y) eb ∙ more m)
        where
          more : (m : ℕ) → n + m * n ≡ suc m * n
          more m = omega arith

  -- an item of one of them
  get_piece : (s : Span) (k m i j p : ℕ) → i < m → j < n → p ≡ i * n + j → slice_get (flat_map f (values_from s k m)) p ≡ slice_get (f (span_value s (k + i))) j
  get_piece s k zero i j p h l e = absurd (omega (arith, h))
  get_piece s k (suc m) zero j p h l e =
      let q : p ≡ j = e ∙ omega arith in
      let a : j < length (f (span_value s k)) = omega (arith, l, same (span_value s k)) in
      let z : k ≡ k + zero = omega arith in
      ap (λ xs. slice_get xs p) (flat_map-cons f (span_value s k) (values_from s (suc k) m))
      ∙ (ap (slice_get (f (span_value s k) ++ flat_map f (values_from s (suc k) m))) q
      ∙ (get_left (f (span_value s k)) (flat_map f (values_from s (suc k) m)) j a ∙ ap (λ x. slice_get (f (span_value s x)) j) z))
  get_piece s k (suc m) (suc i) j p h l e =
      let step : suc i * n ≡ n + i * n = omega arith in
      let q : p ≡ length (f (span_value s k)) + (i * n + j) = omega (arith, e, step, same (span_value s k)) in
      let z : suc k + i ≡ k + suc i = omega arith in
      ap (λ xs. slice_get xs p) (flat_map-cons f (span_value s k) (values_from s (suc k) m))
      ∙ (get_right (f (span_value s k)) (flat_map f (values_from s (suc k) m)) (i * n + j) p q
      ∙ (get_piece s (suc k) m i j (i * n + j) (omega (arith, h)) l refl ∙ ap (λ x. slice_get (f (span_value s x)) j) z))

-- the number of settings is the product of the counts
pub vectors_len : (ss : List Span) → length (vectors_of ss) ≡ vector_count ss
vectors_len [] = refl
vectors_len (s ∷ ss) =
    pieces_len (λ x. map (λ v. x ∷ v) (vectors_of ss)) (vector_count ss) (λ x. length-map (vectors_of ss) (λ v. x ∷ v) ∙ vectors_len ss) s 0 s.count

-- the setting at an index: the first value by the quotient, the others by the remainder
pub vector_step : (s : Span) (ss : List Span) (i j p : ℕ) → i < s.count → j < vector_count ss → p ≡ i * vector_count ss + j
    → slice_get (vectors_of (s ∷ ss)) p ≡ option_map (λ v. span_value s i ∷ v) (slice_get (vectors_of ss) j)
vector_step s ss i j p h l e =
    let z : 0 + i ≡ i = omega arith in
    get_piece (λ x. map (λ v. x ∷ v) (vectors_of ss)) (vector_count ss) (λ x. length-map (vectors_of ss) (λ v. x ∷ v) ∙ vectors_len ss) s 0 s.count i j p h l e
    ∙ (slice_get-map (λ v. span_value s (0 + i) ∷ v) (vectors_of ss) j ∙ ap (λ k. option_map (λ v. span_value s k ∷ v) (slice_get (vectors_of ss) j)) z)

pub some_times : (a b : ℕ) → 0 < a → 0 < b → 0 < a * b
some_times zero b x y = absurd (omega (arith, x))
some_times (suc a) b x y = omega (arith, y)

-- there is at least one
pub some_vector : (ss : List Span) → All HasValues ss → 0 < vector_count ss
some_vector [] h = omega arith
some_vector (s ∷ ss) h = some_times s.count (vector_count ss) (h 0 s (omega arith)).some (some_vector ss (λ k d l. h (suc k) d (omega (arith, l))))

-- ---- one span after the other

-- how many settings the other spans have
others_count : (s : Span) (ss : List Span) (size : ℕ) → 0 < s.count → s.count * vector_count ss ≡ size → size / s.count ≡ vector_count ss
others_count s ss size h e = ap (λ n. n / s.count) (sym e) ∙ mul-div_cancel_left (vector_count ss) h

less_than : (a n v : ℕ) → 0 < n → v < a * n → v / n < a
less_than a n v h l = (div-lt_iff_lt-mul {k = n} {x = v} {y = a} h).1 l

-- the values of the spans so far, and one more
pub value_next : (all rest after : List Span) (s : Span) (done next : List ℤ) (number size place inner : ℕ) → rest ≡ s ∷ after
    → (slice_get (vectors_of all) number ≡ option_map (λ w. done ++ w) (slice_get (vectors_of rest) place)) × (vector_count rest ≡ size) × (place < size) × (length done + length rest ≤ MOST_CONSTANTS) × All HasValues rest
    → inner ≡ size / s.count → next ≡ done ++ (span_value s (place / inner) ∷ [])
    → (slice_get (vectors_of all) number ≡ option_map (λ w. next ++ w) (slice_get (vectors_of after) (place % inner))) × (vector_count after ≡ inner) × (place % inner < inner) × (length next + length after ≤ MOST_CONSTANTS) × All HasValues after
value_next all rest after s done next number size place inner e inv ei en =
    let values : All HasValues after = All-rest HasValues s after rest e inv.4 in
    let own : 0 < s.count = (subst (All HasValues) e inv.4 0 s (omega arith)).some in
    let product : s.count * vector_count after ≡ size = ap vector_count (sym e) ∙ inv.1 in
    let same : inner ≡ vector_count after = ei ∙ others_count s after size own product in
    let some : 0 < inner = rw same (some_vector after values) in
    let total : s.count * inner ≡ size = ap (λ n. s.count * n) same ∙ product in
    let low : place / inner < s.count = less_than s.count inner place some (omega (arith, inv.2, total)) in
    let rest_low : place % inner < inner = mod-lt place some in
    let split : place ≡ place / inner * inner + place % inner = sym (div-add-mod' place inner) in
    let split' : place ≡ place / inner * vector_count after + place % inner = split ∙ ap (λ n. place / inner * n + place % inner) same in
    let lens : length next ≡ length done + 1 = ap length en ∙ length-append done (span_value s (place / inner) ∷ []) in
    let ends : length rest ≡ length after + 1 = ap length e ∙ omega arith in (
      inv.0
          ∙ (ap (λ r. option_map (λ w. done ++ w) (slice_get (vectors_of r) place)) e
          ∙ (ap (option_map (λ w. done ++ w)) (vector_step s after (place / inner) (place % inner) place low (omega (arith, rest_low, same)) split')
          ∙ (shifted done (span_value s (place / inner)) (slice_get (vectors_of after) (place % inner))
          ∙ ap (λ x. option_map (λ w. x ++ w) (slice_get (vectors_of after) (place % inner))) (sym en)))),
      sym same,
      rest_low,
      omega (arith, lens, ends, inv.3),
      values,
    )
  where
    shifted : (done : List ℤ) (x : ℤ) (o : Option (List ℤ)) → option_map (λ w. done ++ w) (option_map (λ v. x ∷ v) o) ≡ option_map (λ w. (done ++ (x ∷ [])) ++ w) o
    shifted done x None = refl
    shifted done x (Some w) = ap Some (sym (append_assoc done (x ∷ []) w))

-- ---- the start values

-- the index of the start values is the index of their setting
pub start_vector_at : (ss : List Span) → All HasValues ss → (start_index ss < vector_count ss) × (slice_get (vectors_of ss) (start_index ss) ≡ Some (start_vector ss))
start_vector_at [] h = (omega arith, refl)
start_vector_at (s ∷ ss) h =
    let own : HasValues s = h 0 s (omega arith) in
    let next = start_vector_at ss (λ k d l. h (suc k) d (omega (arith, l))) in
    let bound : s.start * vector_count ss + start_index ss < s.count * vector_count ss = inside s.start s.count (vector_count ss) (start_index ss) own.start next.0 in (
      bound,
      vector_step s ss s.start (start_index ss) (s.start * vector_count ss + start_index ss) own.start next.0 refl ∙ ap (option_map (λ v. span_value s s.start ∷ v)) next.1,
    )
  where
    inside : (a b n i : ℕ) → a < b → i < n → a * n + i < b * n
    inside a b n i h l =
        let m : (suc a) * n ≤ b * n = mul-le-mul_right n (omega (arith, h)) in
        let e : (suc a) * n ≡ n + a * n = omega arith in
        omega (arith, m, e, l)

pub start_next : (all rest after : List Span) (s : Span) (number size inner : ℕ) → rest ≡ s ∷ after
    → (start_index all ≡ number + start_index rest) × (vector_count rest ≡ size) × All HasValues rest → inner ≡ size / s.count
    → (start_index all ≡ (number + s.start * inner) + start_index after) × (vector_count after ≡ inner) × All HasValues after
start_next all rest after s number size inner e inv ei =
    let values : All HasValues after = All-rest HasValues s after rest e inv.2 in
    let own : 0 < s.count = (subst (All HasValues) e inv.2 0 s (omega arith)).some in
    let product : s.count * vector_count after ≡ size = ap vector_count (sym e) ∙ inv.1 in
    let same : inner ≡ vector_count after = ei ∙ others_count s after size own product in
    let index : start_index rest ≡ s.start * inner + start_index after = ap start_index e ∙ ap (λ n. s.start * n + start_index after) (sym same) in
    (omega (arith, inv.0, index), sym same, values)

pub start_end : (all rest : List Span) (number : ℕ) → length rest ≡ 0 → start_index all ≡ number + start_index rest → start_index all ≡ number
start_end all [] number e inv = omega (arith, inv)
start_end all (s ∷ rest) number e inv = absurd (omega (arith, e))
