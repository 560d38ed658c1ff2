-- Lines and words from the front.
use Rattle.std.proofs.Common.{◌≡◌, ℕ, zero, suc, ◌<◌, ◌≤◌, Bool, true, false, List, [], ◌∷◌, ◌++◌, length, take, drop, get_or, drop-cons, refl, sym, ◌∙◌, ap, arith, append_assoc, inl, inr}
use Rattle.std.specs.Prelude.{◌⊎◌, not, ◌==◌}
use Rattle.std.specs.List.{prefix_len}
use Rattle.std.proofs.lemmas.Bool.{cases_Bool}
use Rattle.std.proofs.lemmas.List.{append-nil}
use Rattle.std.proofs.lemmas.List.Sums.{prefix_len_stops}
use Rattle.rc_text.specs.Bytes.{LINE_FEED, is_blank}
use Rattle.tune_template.specs.Lines.{lines_from, lines_of, with_word, words_from, words_of}

-- a run goes on with an item that passes, and stops at one that does not
run_goes_on : (p : ℕ → Bool) (b : ℕ) (bs : List ℕ) → p b ≡ true → prefix_len p (b ∷ bs) ≡ suc (prefix_len p bs)
run_goes_on p b bs e = rw e (omega arith)

run_stops : (p : ℕ → Bool) (b : ℕ) (bs : List ℕ) → p b ≡ false → prefix_len p (b ∷ bs) ≡ 0
run_stops p b bs e = rw e refl

abbrev in_line : ℕ → Bool
in_line b = not (b == LINE_FEED)

abbrev in_word : ℕ → Bool
in_word b = not (is_blank b)

-- a line that ends with the text
ends : (front bs : List ℕ) → length bs ≤ prefix_len in_line bs → lines_from front bs ≡ (front ++ bs) ∷ []
ends front [] h = ap (λ x. x ∷ []) (sym (append-nil front))
ends front (b ∷ bs) h = by_byte (cases_Bool (b == LINE_FEED)) (ends (front ++ (b ∷ [])) bs) where
  by_byte : ((b == LINE_FEED) ≡ true) ⊎ ((b == LINE_FEED) ≡ false) → (length bs ≤ prefix_len in_line bs → lines_from (front ++ (b ∷ [])) bs ≡ ((front ++ (b ∷ [])) ++ bs) ∷ [])
      → lines_from front (b ∷ bs) ≡ (front ++ (b ∷ bs)) ∷ []
  by_byte (inl e) next = let k = run_stops in_line b bs (ap not e) in absurd (omega (arith, h, k))
  by_byte (inr e) next = let k = run_goes_on in_line b bs (ap not e) in rw e (next (omega (arith, h, k)) ∙ ap (λ x. x ∷ []) (append_assoc front (b ∷ []) bs))

-- a line that ends with a line feed
goes_on : (front bs : List ℕ) (n : ℕ) → prefix_len in_line bs ≡ n → n < length bs → lines_from front bs ≡ (front ++ take n bs) ∷ lines_of (drop (suc n) bs)
goes_on front [] n p h = absurd (omega (arith, h))
goes_on front (b ∷ bs) zero p h = by_byte (cases_Bool (b == LINE_FEED)) where
  by_byte : ((b == LINE_FEED) ≡ true) ⊎ ((b == LINE_FEED) ≡ false) → lines_from front (b ∷ bs) ≡ (front ++ []) ∷ lines_of bs
  by_byte (inl e) = rw e (ap (λ x. x ∷ lines_of bs) (sym (append-nil front)))
  by_byte (inr e) = let k = run_goes_on in_line b bs (ap not e) in absurd (omega (arith, k, p))
goes_on front (b ∷ bs) (suc n) p h = by_byte (cases_Bool (b == LINE_FEED)) (goes_on (front ++ (b ∷ [])) bs n) where
  by_byte : ((b == LINE_FEED) ≡ true) ⊎ ((b == LINE_FEED) ≡ false)
      → (prefix_len in_line bs ≡ n → n < length bs → lines_from (front ++ (b ∷ [])) bs ≡ ((front ++ (b ∷ [])) ++ take n bs) ∷ lines_of (drop (suc n) bs))
      → lines_from front (b ∷ bs) ≡ (front ++ (b ∷ take n bs)) ∷ lines_of (drop (suc n) bs)
  by_byte (inl e) next = let k = run_stops in_line b bs (ap not e) in absurd (omega (arith, k, p))
  by_byte (inr e) next =
      let k = run_goes_on in_line b bs (ap not e) in
      rw e (next (omega (arith, k, p)) (omega (arith, h)) ∙ ap (λ x. x ∷ lines_of (drop (suc n) bs)) (append_assoc front (b ∷ []) (take n bs)))

all_taken : (xs : List ℕ) (n : ℕ) → length (drop n xs) ≡ 0 → (length xs ≤ n) × (take n xs ≡ xs)
all_taken [] zero h = (omega arith, refl)
all_taken [] (suc n) h = (omega arith, refl)
all_taken (x ∷ xs) zero h = absurd (omega (arith, h))
all_taken (x ∷ xs) (suc n) h = let p = all_taken xs n h in (omega (arith, p.0), ap (λ y. x ∷ y) p.1)

after_first : (xs : List ℕ) (n x : ℕ) (rest : List ℕ) → drop n xs ≡ x ∷ rest → (n < length xs) × (drop (suc n) xs ≡ rest)
after_first [] zero x rest h = absurd (cc)
after_first [] (suc n) x rest h = absurd (cc)
after_first (y ∷ xs) zero x rest h = (omega arith, cc)
after_first (y ∷ xs) (suc n) x rest h = let p = after_first xs n x rest h in (omega (arith, p.0), p.1)

pub last_line : (text : List ℕ) (n : ℕ) → n ≡ prefix_len (λ b. not (b == LINE_FEED)) text → length (drop n text) ≡ 0 → lines_of text ≡ take n text ∷ []
last_line text n e h = let p = all_taken text n h in ends [] text (omega (arith, e, p.0)) ∙ ap (λ x. x ∷ []) (sym p.1)

pub next_line : (text : List ℕ) (n x : ℕ) (rest : List ℕ) → n ≡ prefix_len (λ b. not (b == LINE_FEED)) text → drop n text ≡ x ∷ rest → lines_of text ≡ take n text ∷ lines_of rest
next_line text n x rest e h = let p = after_first text n x rest h in goes_on [] text n (sym e) p.0 ∙ ap (λ k. take n text ∷ lines_of k) p.1

-- blanks in front are passed
blanks_passed : (bs : List ℕ) (n : ℕ) → prefix_len is_blank bs ≡ n → words_of bs ≡ words_of (drop n bs)
blanks_passed [] zero p = refl
blanks_passed [] (suc n) p = refl
blanks_passed (b ∷ bs) zero p = refl
blanks_passed (b ∷ bs) (suc n) p = by_byte (cases_Bool (is_blank b)) (blanks_passed bs n) where
  by_byte : (is_blank b ≡ true) ⊎ (is_blank b ≡ false) → (prefix_len is_blank bs ≡ n → words_of bs ≡ words_of (drop n bs)) → words_of (b ∷ bs) ≡ words_of (drop n bs)
  by_byte (inl e) next = let k = run_goes_on is_blank b bs e in rw e (next (omega (arith, k, p)))
  by_byte (inr e) next = let k = run_stops is_blank b bs e in absurd (omega (arith, k, p))

-- a blank ends a word
ended : (front : List ℕ) (b : ℕ) (bs : List ℕ) → is_blank b ≡ true → words_from front (b ∷ bs) ≡ with_word front (words_of bs)
ended front b bs e = rw e refl

-- a word goes on up to a blank
word_cut : (front bs : List ℕ) (n : ℕ) → prefix_len in_word bs ≡ n → words_from front bs ≡ with_word (front ++ take n bs) (words_of (drop n bs))
word_cut front [] zero p = ap (λ x. with_word x []) (sym (append-nil front))
word_cut front [] (suc n) p = ap (λ x. with_word x []) (sym (append-nil front))
word_cut front (b ∷ bs) zero p = by_byte (cases_Bool (is_blank b)) where
  by_byte : (is_blank b ≡ true) ⊎ (is_blank b ≡ false) → words_from front (b ∷ bs) ≡ with_word (front ++ []) (words_of (b ∷ bs))
  by_byte (inl e) = ended front b bs e ∙ (ap (λ x. with_word x (words_of bs)) (sym (append-nil front)) ∙ ap (with_word (front ++ [])) (sym (ended [] b bs e)))
  by_byte (inr e) = let k = run_goes_on in_word b bs (ap not e) in absurd (omega (arith, k, p))
word_cut front (b ∷ bs) (suc n) p = by_byte (cases_Bool (is_blank b)) (word_cut (front ++ (b ∷ [])) bs n) where
  by_byte : (is_blank b ≡ true) ⊎ (is_blank b ≡ false) → (prefix_len in_word bs ≡ n → words_from (front ++ (b ∷ [])) bs ≡ with_word ((front ++ (b ∷ [])) ++ take n bs) (words_of (drop n bs)))
      → words_from front (b ∷ bs) ≡ with_word (front ++ (b ∷ take n bs)) (words_of (drop n bs))
  by_byte (inl e) next = let k = run_stops in_word b bs (ap not e) in absurd (omega (arith, k, p))
  by_byte (inr e) next =
      let k = run_goes_on in_word b bs (ap not e) in
      rw e (next (omega (arith, k, p)) ∙ ap (λ x. with_word x (words_of (drop n bs))) (append_assoc front (b ∷ []) (take n bs)))

pub no_word : (line : List ℕ) (n : ℕ) → n ≡ prefix_len is_blank line → n ≡ length line → words_of line ≡ []
no_word line n e l = blanks_passed line n (sym e) ∙ (ap (λ k. words_of (drop k line)) l ∙ ap words_of (all_dropped line)) where
  all_dropped : (xs : List ℕ) → drop (length xs) xs ≡ []
  all_dropped [] = refl
  all_dropped (x ∷ xs) = all_dropped xs

-- a word of at least one byte
with_some : (word : List ℕ) (k : ℕ) (words : List (List ℕ)) → 0 < k → 0 < length word → with_word (take k word) words ≡ take k word ∷ words
with_some [] k words h l = absurd (omega (arith, l))
with_some (b ∷ word) zero words h l = absurd (omega (arith, h))
with_some (b ∷ word) (suc k) words h l = refl

pub one_word : (line word : List ℕ) (n k : ℕ) → n ≡ prefix_len is_blank line → n < length line → word ≡ drop n line → k ≡ prefix_len (λ b. not (is_blank b)) word → words_of line ≡ take k word ∷ words_of (drop k word)
one_word line word n k e l w h =
    let stops : is_blank (get_or line n 0) ≡ false = ap (λ i. is_blank (get_or line i 0)) e ∙ prefix_len_stops is_blank line 0 (omega (arith, e, l)) in
    let cut : word ≡ get_or line n 0 ∷ drop (suc n) line = w ∙ drop-cons line n 0 l in
    let some : prefix_len in_word word ≡ suc (prefix_len in_word (drop (suc n) line)) = ap (prefix_len in_word) cut ∙ run_goes_on in_word (get_or line n 0) (drop (suc n) line) (ap not stops) in
    let long : length word ≡ suc (length (drop (suc n) line)) = ap length cut in
    blanks_passed line n (sym e)
    ∙ (ap words_of (sym w)
    ∙ (word_cut [] word k (sym h)
    ∙ with_some word k (words_of (drop k word)) (omega (arith, h, some)) (omega (arith, long))))
