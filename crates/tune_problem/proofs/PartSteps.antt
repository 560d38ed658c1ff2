-- The settings of a part, and their places among all settings.
use Rattle.std.proofs.Common.{◌≡◌, ℕ, zero, suc, ◌+◌, ◌-◌, ◌*◌, ◌/◌, ◌<◌, ◌≤◌, List, [], ◌∷◌, ◌++◌, length, take, drop, Some, refl, sym, ◌∙◌, ap, subst, arith, append-nil}
use Rattle.std.specs.Prelude.{ℤ, slice_get, flat_map, option_and_then}
use Rattle.std.specs.List.{range_with_len}
use Rattle.std.specs.Option.{unwrap_or}
use Rattle.std.specs.Result.{result_ok}
use Rattle.std.proofs.lemmas.List.{length-drop, length-take-le}
use Rattle.std.proofs.Math.Nat.{div-mul-le_self, div-le_of_le-mul, mul-le-mul_right, mul-div_cancel_left, zero-div}
use Rattle.std.proofs.lemmas.Nat.{le-div}
use Rattle.std.proofs.lemmas.List.Concat.{flat_map-append}
use Rattle.std.proofs.Math.Seq.{take-add, take-length}
use Rattle.tune_problem.specs.declared.part.Part.{Part}
use Rattle.tune_problem.specs.Parts.{part, whole, IsPart, part_first, part_end, part_of}
use Rattle.tune_template.specs.Vectors.{vectors_of, start_index}
use Rattle.rc_asm.specs.Assembly.{outcome_of, text_warrior}
use Rattle.tune_template.specs.Instances.{constants_of, instance_of}
use Rattle.tune_problem.specs.Inputs.{InputsView, AreInputs, settings_of, index_among, part_start, warrior_of}
use Rattle.tune_problem.proofs.Certificates.{slice_get_some}

-- ---- bounds of a part

pub whole_is_part : (count : ℕ) → 0 < count → IsPart whole count
whole_is_part count h = record { some = omega arith; within = omega arith; few = omega (arith, h) }

-- n more are at least one part more, if there are at most n parts
one_more : (a n k : ℕ) → 0 < k → k ≤ n → a / k < (a + n) / k
one_more a n k h l =
    let below : a / k * k ≤ a = div-mul-le_self a k in
    let step : suc (a / k) * k ≡ a / k * k + k = omega arith in
    let room : suc (a / k) * k ≤ a + n = omega (arith, below, step, l) in
    let over : suc (a / k) ≤ (a + n) / k = le-div (suc (a / k)) (a + n) k h room in
    omega (arith, over)

-- the end of part i + 1 is n above its first, before the division
pub part_some : (p : Part) (count : ℕ) → IsPart p count → part_first p count < part_end p count
part_some p count h = by_number p.number p.parts h.some (omega (arith, h.some, h.within)) h.few
  where
    by_number : (i k : ℕ) → 1 ≤ i → 0 < k → k ≤ count → (i - 1) * count / k < i * count / k
    by_number zero k some positive few = absurd (omega (arith, some))
    by_number (suc i) k some positive few =
        let less : suc i - 1 ≡ i = omega arith in
        let more : suc i * count ≡ i * count + count = omega arith in
        rw less (rw more (one_more (i * count) count k positive few))

pub part_inside : (p : Part) (count : ℕ) → IsPart p count → part_end p count ≤ count
part_inside p count h =
    div-le_of_le-mul p.parts (mul-le-mul_right count h.within)

-- ---- items of a stretch of a list

get_drop : {A : Type 0} (xs : List A) (n i : ℕ) → slice_get (drop n xs) i ≡ slice_get xs (n + i)
get_drop [] zero i = refl
get_drop [] (suc n) i = refl
get_drop (x ∷ xs) zero i = let e : i ≡ zero + i = omega arith in ap (slice_get (x ∷ xs)) e
get_drop (x ∷ xs) (suc n) i = let e : suc (n + i) ≡ suc n + i = omega arith in get_drop xs n i ∙ ap (slice_get (x ∷ xs)) e

get_take : {A : Type 0} (xs : List A) (n i : ℕ) → i < n → slice_get (take n xs) i ≡ slice_get xs i
get_take [] zero i h = refl
get_take [] (suc n) i h = refl
get_take (x ∷ xs) zero i h = absurd (omega (arith, h))
get_take (x ∷ xs) (suc n) zero h = refl
get_take (x ∷ xs) (suc n) (suc i) h = get_take xs n i (omega (arith, h))

module _ {A : Type 0} (p : Part) (xs : List A) (h : IsPart p (length xs)) where
  pub part_len : length (part_of p xs) ≡ part_end p (length xs) - part_first p (length xs)
  unfolding part_of
  part_len =
      let n = length xs in
      let inside : part_end p n ≤ n = part_inside p n h in
      let left : length (drop (part_first p n) xs) ≡ n - part_first p n = length-drop (part_first p n) xs in
      length-take-le (part_end p n - part_first p n) (drop (part_first p n) xs) (omega (arith, inside, left))

  stretch_get : (i : ℕ) → i < part_end p (length xs) - part_first p (length xs) → slice_get (part_of p xs) i ≡ slice_get xs (part_first p (length xs) + i)
  unfolding part_of
  stretch_get i low =
      get_take (drop (part_first p (length xs)) xs) (part_end p (length xs) - part_first p (length xs)) i low
      ∙ get_drop xs (part_first p (length xs)) i

  pub part_get : (i : ℕ) → i < length (part_of p xs) → slice_get (part_of p xs) i ≡ slice_get xs (part_first p (length xs) + i)
  part_get i l = stretch_get i (omega (arith, l, part_len))

-- ---- the settings of inputs

module _ (i : InputsView) (h : AreInputs i) where
  pub settings_len : length (settings_of i) ≡ part_end i.part (length (vectors_of i.template.ranges.spans)) - part_first i.part (length (vectors_of i.template.ranges.spans))
  unfolding settings_of
  settings_len = part_len i.part (vectors_of i.template.ranges.spans) h.part

  pub setting_at : (v : ℕ) → v < length (settings_of i) → slice_get (settings_of i) v ≡ slice_get (vectors_of i.template.ranges.spans) (part_first i.part (length (vectors_of i.template.ranges.spans)) + v)
  unfolding settings_of
  setting_at v l = part_get i.part (vectors_of i.template.ranges.spans) h.part v l

  warrior_at : (v : ℕ) → v < length (settings_of i) → warrior_of i v ≡ result_ok (instance_of i.template i.rules (part_first i.part (length (vectors_of i.template.ranges.spans)) + v))
  unfolding warrior_of instance_of text_warrior
  warrior_at v l =
      let t = i.template in
      let found = slice_get_some (settings_of i) v l in
      let at : slice_get (vectors_of t.ranges.spans) (part_first i.part (length (vectors_of t.ranges.spans)) + v) ≡ Some found.0 = sym (setting_at v l) ∙ found.1 in
      ap (option_and_then (λ x. text_warrior t.text (constants_of t.ranges.names x) i.rules)) found.1
      ∙ ap (λ o. result_ok (outcome_of t.text (constants_of t.ranges.names (unwrap_or o [])) i.rules)) (sym at)

  pub some_settings : part_first i.part (length (vectors_of i.template.ranges.spans)) < part_end i.part (length (vectors_of i.template.ranges.spans))
  some_settings = part_some i.part (length (vectors_of i.template.ranges.spans)) h.part

  pub few_settings : part_end i.part (length (vectors_of i.template.ranges.spans)) ≤ length (vectors_of i.template.ranges.spans)
  few_settings = part_inside i.part (length (vectors_of i.template.ranges.spans)) h.part

  pub setting_inside : (v : ℕ) → v < length (settings_of i) → part_first i.part (length (vectors_of i.template.ranges.spans)) + v < length (vectors_of i.template.ranges.spans)
  setting_inside v l =
      let end = few_settings in
      let count = settings_len in
      omega (arith, l, end, count)

  pub start_placed : (r : ℕ) → r ≡ index_among (part_first i.part (length (vectors_of i.template.ranges.spans))) (length (settings_of i)) (start_index i.template.ranges.spans) → r ≡ part_start i
  unfolding part_start
  start_placed r e = e

  module _ (v n : ℕ) (l : v < length (settings_of i)) (at : n ≡ part_first i.part (length (vectors_of i.template.ranges.spans)) + v) where
    pub setting_found : (x : List ℤ) → slice_get (vectors_of i.template.ranges.spans) n ≡ Some x → slice_get (settings_of i) v ≡ Some x
    setting_found x e = setting_at v l ∙ (ap (slice_get (vectors_of i.template.ranges.spans)) (sym at) ∙ e)

    pub warrior_is : warrior_of i v ≡ result_ok (instance_of i.template i.rules n)
    warrior_is = warrior_at v l ∙ ap (λ m. result_ok (instance_of i.template i.rules m)) (sym at)

-- ---- all parts

range_more : (a m : ℕ) → range_with_len a (suc m) ≡ range_with_len a m ++ ((a + m) ∷ [])
range_more a zero = let e : a ≡ a + zero = omega arith in ap (λ n. n ∷ []) e
range_more a (suc m) = let e : (a + 1) + m ≡ a + suc m = omega arith in ap (λ xs. a ∷ xs) (range_more (a + 1) m ∙ ap (λ n. range_with_len (a + 1) m ++ (n ∷ [])) e)

module _ {A : Type 0} (xs : List A) (k : ℕ) (few : k ≤ length xs) where
  -- a part continues where the parts before it end
  next_part : (m : ℕ) → m < k → take (m * length xs / k) xs ++ part_of (part (suc m) k) xs ≡ take (suc m * length xs / k) xs
  unfolding part_of
  next_part m h =
      let before : suc m - 1 ≡ m = omega arith in
      let some : (suc m - 1) * length xs / k < suc m * length xs / k = part_some (part (suc m) k) (length xs) (record { some = omega arith; within = omega (arith, h); few = few }) in
      let rises : m * length xs / k ≤ suc m * length xs / k = omega (arith, subst (λ i. i * length xs / k < suc m * length xs / k) before some) in
      let ends : m * length xs / k + (suc m * length xs / k - m * length xs / k) ≡ suc m * length xs / k = omega (arith, rises) in
      ap (λ i. take (m * length xs / k) xs ++ take (suc m * length xs / k - i * length xs / k) (drop (i * length xs / k) xs)) before
      ∙ (sym (take-add (m * length xs / k) (suc m * length xs / k - m * length xs / k) xs) ∙ ap (λ n. take n xs) ends)

  -- parts 1 to m together
  first_parts : (m : ℕ) → m ≤ k → flat_map (λ i. part_of (part i k) xs) (range_with_len 1 m) ≡ take (m * length xs / k) xs
  first_parts zero h = let e : zero * length xs ≡ 0 = omega arith in ap (λ n. take n xs) (sym (ap (λ n. n / k) e ∙ zero-div k))
  first_parts (suc m) h =
      let all : List ℕ → List A = flat_map (λ i. part_of (part i k) xs) in
      let last : 1 + m ≡ suc m = omega arith in
      let so_far : all (range_with_len 1 m) ≡ take (m * length xs / k) xs = first_parts m (omega (arith, h)) in
      let own : all (suc m ∷ []) ≡ part_of (part (suc m) k) xs = append-nil (part_of (part (suc m) k) xs) in
      ap all (range_more 1 m ∙ ap (λ n. range_with_len 1 m ++ (n ∷ [])) last)
      ∙ (flat_map-append (λ i. part_of (part i k) xs) (range_with_len 1 m) (suc m ∷ [])
      ∙ (ap (λ ys. ys ++ all (suc m ∷ [])) so_far ∙ (ap (λ ys. take (m * length xs / k) xs ++ ys) own ∙ next_part m (omega (arith, h)))))

  pub all_parts : 1 ≤ k → flat_map (λ i. part_of (part i k) xs) (range_with_len 1 k) ≡ xs
  all_parts some = first_parts k (omega arith) ∙ (ap (λ n. take n xs) (mul-div_cancel_left (length xs) (omega (arith, some))) ∙ take-length xs)

-- part 1 of 1 is the whole list
pub whole_list : {A : Type 0} (xs : List A) → part_of whole xs ≡ xs
unfolding part_of
whole_list xs =
    let none : (1 - 1) * length xs ≡ 0 = omega arith in
    let first : (1 - 1) * length xs / 1 ≡ 0 = ap (λ n. n / 1) none ∙ zero-div 1 in
    let rest : length xs - 0 ≡ length xs = omega arith in
    let end : 1 * length xs / 1 ≡ length xs = mul-div_cancel_left (length xs) (omega arith) in
    ap (λ n. take (n - (1 - 1) * length xs / 1) (drop ((1 - 1) * length xs / 1) xs)) end
    ∙ (ap (λ n. take (length xs - n) (drop n xs)) first ∙ (ap (λ n. take n xs) rest ∙ take-length xs))
