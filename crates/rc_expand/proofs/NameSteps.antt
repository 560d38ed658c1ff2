-- Names, byte by byte.
use Rattle.std.proofs.Common.{◌≡◌, ◌≢◌, ℕ, ◌+◌, ◌<◌, ◌≤◌, ◌-◌, ◌/◌, ◌%◌, ◌^◌, Bool, true, false, List, [], ◌∷◌, ◌++◌, get_or, take, drop, drop-cons, length, map, refl, arith, sym, ◌∙◌, ap, add-one}
use Rattle.std.specs.Prelude.{flat_map}
use Rattle.std.specs.Str.{bytes_eq}
use Rattle.std.specs.Int.Digits.{digits_of}
use Rattle.std.specs.Fmt.{decimal}
use Rattle.std.proofs.lemmas.List.{map-append}
use Rattle.std.proofs.lemmas.Fmt.{decimal_digit, decimal_step, decimal_by_steps}
use Rattle.std.proofs.lemmas.Bool.{eq-eqb, le-ltb, lt-ltb}
use Rattle.std.proofs.lemmas.Slice.Eq.{bytes_eq-Decides}
use Rattle.std.proofs.lemmas.Int.Digits.{digits_of_step}
use Rattle.rc_text.specs.Symbols.{counter_text}

abbrev number_text : ℕ → List ℕ
number_text v = map (λ d. 48 + d) (digits_of 10 v)

number_text_step : (v : ℕ) → 0 < v → number_text v ≡ number_text (v / 10) ++ ((48 + v % 10) ∷ [])
number_text_step v h = ap (map (λ d. 48 + d)) (digits_of_step 10 v (omega arith) h) ∙ map-append (λ d. 48 + d) (digits_of 10 (v / 10)) ((v % 10) ∷ [])

-- a number of one digit
one_digit : (n : ℕ) → 0 < n → n < 10 → (48 + n) ∷ [] ≡ number_text n
one_digit n p h =
    let tens : n / 10 ≡ 0 = omega arith in
    let ones : n % 10 ≡ n = omega arith in
    sym (number_text_step n p ∙ (λ x. number_text (tens x) ++ ((48 + ones x) ∷ [])))

-- and so a number is as it is printed
printed : (n : ℕ) → n < 2 ^ 64 → 0 < n → decimal n ≡ number_text n
printed = decimal_by_steps (λ m ds. 0 < m → ds ≡ number_text m) (λ m h p. one_digit m p h)
    (λ m ds h e p. ap (λ x. x ++ ((48 + m % 10) ∷ [])) (e (omega arith)) ∙ sym (number_text_step m p))

-- a counter of more than one digit
pub long_text : (n : ℕ) (bytes : List ℕ) → 10 ≤ n → n < 2 ^ 64 → bytes ≡ decimal n → bytes ≡ counter_text n
long_text n bytes h k e = rw (le-ltb n 10 h) (e ∙ printed n k (omega arith))

-- a counter of one digit has a 0 before it, as 100 and the digit have after the 1
one_more : (n : ℕ) → n < 10 → decimal (n + 100) ≡ 49 ∷ 48 ∷ (48 + n) ∷ []
one_more n h =
    let tens : (n + 100) / 10 ≡ 10 = omega arith in
    let ones : (n + 100) % 10 ≡ n = omega arith in
    let ten : decimal 10 ≡ 49 ∷ 48 ∷ [] = decimal_step 10 (omega arith) (omega arith) ∙ ap (λ t. t ++ (48 ∷ [])) (decimal_digit 1 (omega arith)) in
    decimal_step (n + 100) (omega arith) (omega arith) ∙ ((λ x. decimal (tens x) ++ ((48 + ones x) ∷ [])) ∙ ap (λ t. t ++ ((48 + n) ∷ [])) ten)

pub short_length : (n : ℕ) (bytes : List ℕ) → n < 10 → bytes ≡ decimal (n + 100) → 1 ≤ length bytes
short_length n bytes h e = omega (arith, ap length (e ∙ one_more n h))

pub short_text : (n : ℕ) (bytes : List ℕ) → n < 10 → bytes ≡ decimal (n + 100) → take (length bytes - 1) (drop 1 bytes) ≡ counter_text n
short_text n bytes h e = rw (lt-ltb n 10 h) (ap (λ b. take (length b - 1) (drop 1 b)) (e ∙ one_more n h))

same_front : (a r x : List ℕ) → bytes_eq (a ++ r) (a ++ x) ≡ bytes_eq r x
same_front [] r x = refl
same_front (c ∷ a) r x = rw (eq-eqb c c refl) (same_front a r x)

not_true : (b : Bool) → (b ≡ true → ⊥) → b ≡ false
not_true true h = absurd (h refl)
not_true false h = refl

-- a prefix of both is stripped
pub peeled : (a r b x : List ℕ) → b ≡ a ++ x → bytes_eq (a ++ r) b ≡ bytes_eq r x
peeled a r b x e = ap (bytes_eq (a ++ r)) e ∙ same_front a r x

-- bytes without the prefix differ
pub differs : (a r b : List ℕ) → ((rest : List ℕ) → b ≢ a ++ rest) → bytes_eq (a ++ r) b ≡ false
differs a r b h = not_true (bytes_eq (a ++ r) b) (λ e. h r (sym ((bytes_eq-Decides (a ++ r) b).0 e)))

-- the first of the counters and the others
pub counters_step : (ks : List ℕ) (i : ℕ) → i < length ks → flat_map counter_text (drop i ks) ≡ counter_text (get_or ks i 0) ++ flat_map counter_text (drop (i + 1) ks)
counters_step ks i h = let d : drop i ks ≡ get_or ks i 0 ∷ drop (i + 1) ks = rw add-one (drop-cons ks i 0 h) in ap (flat_map counter_text) d

-- a counter is taken off
pub counter_peeled : (ks bs x : List ℕ) (i : ℕ) → i < length ks → bs ≡ counter_text (get_or ks i 0) ++ x → bytes_eq (flat_map counter_text (drop i ks)) bs ≡ bytes_eq (flat_map counter_text (drop (i + 1) ks)) x
counter_peeled ks bs x i h e = ap (λ t. bytes_eq t bs) (counters_step ks i h) ∙ peeled (counter_text (get_or ks i 0)) (flat_map counter_text (drop (i + 1) ks)) bs x e

-- a counter makes a difference
pub counter_differs : (ks bs : List ℕ) (i : ℕ) → i < length ks → ((rest : List ℕ) → bs ≢ counter_text (get_or ks i 0) ++ rest) → bytes_eq (flat_map counter_text (drop i ks)) bs ≡ false
counter_differs ks bs i h d = ap (λ t. bytes_eq t bs) (counters_step ks i h) ∙ differs (counter_text (get_or ks i 0)) (flat_map counter_text (drop (i + 1) ks)) bs d
