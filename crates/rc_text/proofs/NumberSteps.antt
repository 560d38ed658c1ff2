-- Steps of the reading of a number.
use Rattle.std.proofs.Common.{◌≡◌, ℕ, suc, ◌+◌, ◌-◌, ◌*◌, ◌≤◌, ◌<◌, Bool, true, false, List, [], ◌∷◌, get_or, take, length, refl, arith, cond, ap}
use Rattle.std.proofs.Math.Numerals.{one-add}
use Rattle.std.specs.Char.{is_ascii_digit}
use Rattle.std.specs.List.{prefix_len}
use Rattle.std.proofs.lemmas.List.Sums.{fold_more, prefix_len_passes}
use Rattle.std.proofs.lemmas.Bool.Decides.{nat_tests}
use Rattle.rc_text.specs.Bytes.{decimal_value}

-- a digit is '0' to '9'
digit_range : (b : ℕ) → is_ascii_digit b ≡ true → (48 ≤ b) × (b ≤ 57)
digit_range b h = (grind (arith, nat_tests), grind (arith, nat_tests))

-- each of the digits is one
pub digit_at : (ds : List ℕ) (i : ℕ) → prefix_len is_ascii_digit ds ≡ length ds → i < length ds → (48 ≤ get_or ds i 0) × (get_or ds i 0 ≤ 57)
digit_at ds i all h = digit_range (get_or ds i 0) (prefix_len_passes is_ascii_digit ds i 0 (omega arith))

-- the number with one more digit
pub decimal_more : (ds : List ℕ) (i : ℕ) → i < length ds → decimal_value (take (i + 1) ds) ≡ decimal_value (take i ds) * 10 + (get_or ds i 0 - 48)
decimal_more ds i h = fold_more (λ n b. n * 10 + (b - 48)) 0 ds i 0 h

-- one byte more
taken_step : (x : ℕ) (xs : List ℕ) (b : Bool) → is_ascii_digit x ≡ b → prefix_len is_ascii_digit (take (prefix_len is_ascii_digit xs) xs) ≡ length (take (prefix_len is_ascii_digit xs) xs)
    → prefix_len is_ascii_digit (take (cond b (1 + prefix_len is_ascii_digit xs) 0) (x ∷ xs)) ≡ length (take (cond b (1 + prefix_len is_ascii_digit xs) 0) (x ∷ xs))
taken_step x xs true e h = rw (one-add, e, one-add) (ap suc h)
taken_step x xs false e h = refl

-- the digits at the front are only digits
taken : (xs : List ℕ) → prefix_len is_ascii_digit (take (prefix_len is_ascii_digit xs) xs) ≡ length (take (prefix_len is_ascii_digit xs) xs)
taken [] = refl
taken (x ∷ xs) = taken_step x xs (is_ascii_digit x) refl (taken xs)

-- what is taken as digits is only digits
pub all_digits : (xs : List ℕ) (n : ℕ) → n ≡ prefix_len is_ascii_digit xs → prefix_len is_ascii_digit (take n xs) ≡ length (take n xs)
all_digits xs n e = rw e (taken xs)
