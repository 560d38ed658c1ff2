-- The pieces of a printed text, one at a time, as tokens.
use Rattle.std.proofs.Common.{◌≡◌, ℕ, ◌+◌, ◌-◌, ◌*◌, ◌^◌, ◌<◌, ◌≤◌, Bool, true, false, List, [], ◌∷◌, ◌++◌, length, take, refl, ◌∙◌, ap, arith}
use Rattle.std.specs.Prelude.{fold, nat_le, if◌then◌else◌, ◌==◌}
use Rattle.std.specs.List.{prefix_len}
use Rattle.std.specs.Char.{is_ascii_digit}
use Rattle.std.specs.Str.{all_ascii_digits}
use Rattle.std.specs.Fmt.{decimal}
use Rattle.std.proofs.lemmas.Bool.{and_parts, leb-true, lt-leb, ne_eqb, lt-ltb, both_ways}
use Rattle.std.proofs.Math.Seq.{take-append_seam}
use Rattle.rc_text.specs.declared.token.Kind.{Kind}
use Rattle.rc_text.specs.declared.token.Kind.TheVariants.{Number}
use Rattle.rc_text.specs.declared.lexeme.Lexeme.TheVariants.{Token as TokenOf}
use Rattle.rc_text.specs.Bytes.{LINE_FEED, is_blank, begins_name, decimal_value}
use Rattle.rc_text.specs.Tokens.{lexeme_of, number_lexeme, tokens_after, tokens_from, with_token, token_of}
use Rattle.rc_instr.specs.Digits.{read_on, NoDigitFirst}
use Rattle.rc_instr.proofs.Decimals.{decimal_some, decimal_all, decimal_value as decimal_is}

-- the bytes that belong to a piece are passed over
skip : (p rest : List ℕ) (at_line_start : Bool) (at line : ℕ) → tokens_from (p ++ rest) (length p) at_line_start at line ≡ tokens_from rest 0 at_line_start (at + length p) line
skip [] rest at_line_start at line = ap (λ k. tokens_from rest 0 at_line_start k line) (omega arith)
skip (b ∷ p) rest at_line_start at line = skip p rest at_line_start (at + 1) line ∙ ap (λ k. tokens_from rest 0 at_line_start k line) (omega (arith))

-- a token at the front
pub front : (p rest : List ℕ) (kind : Kind) (at_line_start : Bool) (at line : ℕ) → 0 < length p → lexeme_of at_line_start (p ++ rest) ≡ TokenOf (length p) kind
    → tokens_from (p ++ rest) 0 at_line_start at line ≡ with_token (token_of kind at (length p) line) (tokens_from rest 0 false (at + length p) line)
front [] rest kind at_line_start at line h e = absurd (omega (arith, h))
front (b ∷ p) rest kind at_line_start at line h e =
    ap (λ x. tokens_after x (tokens_from (p ++ rest)) at_line_start at line) e
    ∙ ap (with_token (token_of kind at (length (b ∷ p)) line)) (ap (λ k. tokens_from (p ++ rest) k false (at + 1) line) (omega arith) ∙ skip p rest false (at + 1) line ∙ ap (λ k. tokens_from rest 0 false k line) (omega arith))

-- ---- numbers

-- the byte of a digit
pub record IsDigit (d : ℕ) : Type 0 where
  pub low : 48 ≤ d
  pub high : d ≤ 57

-- what the test of std says
pub digit_bounds : (d : ℕ) → is_ascii_digit d ≡ true → IsDigit d
digit_bounds d h = let p = and_parts _ _ h in record { low = leb-true 48 d p.0; high = leb-true d 57 p.1 }

-- the number of digits, by either definition
fold_is : (n : ℕ) (ds : List ℕ) → fold (λ n b. n * 10 + (b - 48)) n ds ≡ read_on n ds
fold_is n [] = refl
fold_is n (d ∷ ds) = fold_is (n * 10 + (d - 48)) ds

-- a digit is not a blank
not_blank : (d : ℕ) → IsDigit d → is_blank d ≡ false
not_blank d h =
    let a : (d == 32) ≡ false = ne_eqb d 32 (λ e. omega (arith, e, h.low)) in
    let b : (d == 9) ≡ false = ne_eqb d 9 (λ e. omega (arith, e, h.low)) in
    let c : (d == 13) ≡ false = ne_eqb d 13 (λ e. omega (arith, e, h.low)) in
    rw a (rw b c)

-- a digit is not a line feed
no_feed : (d : ℕ) → IsDigit d → (d == LINE_FEED) ≡ false
no_feed d h = ne_eqb d 10 (λ e. omega (arith, e, h.low))

-- a digit is not a semicolon
no_comment : (d : ℕ) → IsDigit d → (d == 59) ≡ false
no_comment d h = ne_eqb d 59 (λ e. omega (arith, e, h.high))

-- a digit does not begin a name
no_letter : (d : ℕ) → IsDigit d → begins_name d ≡ false
no_letter d h =
    let a : nat_le 65 d ≡ false = lt-leb 65 d (omega (arith, h.high)) in
    let b : nat_le 97 d ≡ false = lt-leb 97 d (omega (arith, h.high)) in
    let c : (d == 95) ≡ false = ne_eqb d 95 (λ e. omega (arith, e, h.high)) in
    rw a (rw b c)

-- all of the digits are at the front
digits_len : (ds rest : List ℕ) → all_ascii_digits ds ≡ true → NoDigitFirst rest → prefix_len is_ascii_digit (ds ++ rest) ≡ length ds
digits_len [] [] p h = refl
digits_len [] (c ∷ rest) p h = rw h refl
digits_len (d ∷ ds) rest p h =
    let q = and_parts (is_ascii_digit d) (all_ascii_digits ds) p in
    let i = digits_len ds rest q.1 h in
    rw q.0 (omega (arith, i))

-- the number of the digits at the front
value_at_front : (ds rest : List ℕ) → all_ascii_digits ds ≡ true → NoDigitFirst rest → decimal_value (take (prefix_len is_ascii_digit (ds ++ rest)) (ds ++ rest)) ≡ read_on 0 ds
value_at_front ds rest p h = ap (λ k. decimal_value (take k (ds ++ rest))) (digits_len ds rest p h) ∙ ap decimal_value (take-append_seam ds rest) ∙ fold_is 0 ds

-- a true test picks the first of two
if_true : {A : Type 0} (b : Bool) (x y z : A) → b ≡ true → x ≡ z → (if b then x else y) ≡ z
if_true true x y z h e = e
if_true false x y z h e = absurd (both_ways _ refl h)

-- a number below 2 ^ 32 is a token
number_fits : (len n : ℕ) → n < 2 ^ 32 → number_lexeme len n ≡ TokenOf len (Number n)
number_fits len n l = let t = lt-ltb n (2 ^ 32) l in rw t refl

-- digits are one token
digits_word : (ds rest : List ℕ) (at_line_start : Bool) → 0 < length ds → all_ascii_digits ds ≡ true → NoDigitFirst rest → read_on 0 ds < 2 ^ 32 → lexeme_of at_line_start (ds ++ rest) ≡ TokenOf (length ds) (Number (read_on 0 ds))
digits_word [] rest at_line_start s p h l = absurd (omega (arith, s))
digits_word (d ∷ ds) rest at_line_start s p h l =
    let q = and_parts (is_ascii_digit d) (all_ascii_digits ds) p in
    let g = digit_bounds d q.0 in
    let n = digits_len (d ∷ ds) rest p h in
    let v = value_at_front (d ∷ ds) rest p h in
    let b1 = not_blank d g in
    let b2 = no_feed d g in
    let b3 = no_comment d g in
    let b4 = no_letter d g in
    let e : number_lexeme (prefix_len is_ascii_digit ((d ∷ ds) ++ rest)) (decimal_value (take (prefix_len is_ascii_digit ((d ∷ ds) ++ rest)) ((d ∷ ds) ++ rest))) ≡ TokenOf (length (d ∷ ds)) (Number (read_on 0 (d ∷ ds))) =
    (λ i. number_lexeme (n i) (v i)) ∙ number_fits (length (d ∷ ds)) (read_on 0 (d ∷ ds)) l in
    rw b1 (rw b2 (rw b3 (rw b4 (if_true (is_ascii_digit d) _ _ _ q.0 e))))

-- a number that a load file writes is one token
pub number_word : (n : ℕ) (rest : List ℕ) (at_line_start : Bool) → n < 2 ^ 16 → NoDigitFirst rest → lexeme_of at_line_start (decimal n ++ rest) ≡ TokenOf (length (decimal n)) (Number n)
number_word n rest at_line_start l h =
    let v : read_on 0 (decimal n) ≡ n = decimal_is n (omega (arith, l)) in
    digits_word (decimal n) rest at_line_start (decimal_some n (omega (arith, l))) (decimal_all n (omega (arith, l))) h (omega (arith, v)) ∙ ap (λ k. TokenOf (length (decimal n)) (Number k)) v
