-- What is taken as a token spells it, and neither it nor what is passed over has a line feed.
use Rattle.std.proofs.Common.{◌≡◌, ℕ, ◌+◌, ◌<◌, Bool, true, false, cond, List, [], ◌∷◌, get_or, take, length, refl, sym, arith, ap, ◌∙◌, inl, inr}
use Rattle.std.proofs.Math.Numerals.{one-add}
use Rattle.std.specs.Prelude.{Option, Some, None, ◌&&◌, ◌==◌, nat_lt, not, ◌^◌, codes, map}
use Rattle.std.specs.Char.{is_ascii_digit, to_ascii_lowercase}
use Rattle.std.specs.List.{prefix_len, list_all}
use Rattle.std.proofs.lemmas.Bool.Decides.{nat_tests, eqb_tells}
use Rattle.std.proofs.lemmas.Slice.Eq.{bytes_eq-Decides}
use Rattle.std.proofs.lemmas.List.Folds.{list_all-map}
use Rattle.rc_text.specs.declared.token.Sign.{Sign}
use Rattle.rc_text.specs.declared.lexeme.Lexeme.{Lexeme}
use Rattle.rc_text.specs.declared.lexeme.Lexeme.TheVariants.{Trivia, LineFeed, Token as TokenOf, Fault}
use Rattle.rc_text.specs.Bytes.{is_blank, LINE_FEED, SEMICOLON, begins_name, continues_name, begins_with_word, is_same_word, decimal_value}
use Rattle.rc_text.specs.Signs.{long_sign, short_sign}
use Rattle.rc_text.specs.Tokens.{lexeme_of, sign_lexeme, is_assert}
use Rattle.rc_text.specs.NameClasses.{is_name}
use Rattle.rc_text.specs.TokenTexts.{is_number, SpellsToken}
use Rattle.rc_text.proofs.LexemeSteps.{if_both, and_left, and_right, and_false, long_sign_zero}

-- no line feed
abbrev pub is_plain : ℕ → Bool
is_plain b = not (b == LINE_FEED)

-- no line feed among the bytes
abbrev pub IsPlain : List ℕ → Type 0
IsPlain bytes = list_all is_plain bytes ≡ true

-- what passes a test all along passes it
all_taken : (p : ℕ → Bool) (xs : List ℕ) → list_all p (take (prefix_len p xs) xs) ≡ true
all_taken p [] = refl
all_taken p (x ∷ xs) = by_first (p x) refl (all_taken p xs) where
  by_first : (b : Bool) → p x ≡ b → list_all p (take (prefix_len p xs) xs) ≡ true → list_all p (take (cond b (1 + prefix_len p xs) 0) (x ∷ xs)) ≡ true
  by_first true e h = rw (one-add, e) h
  by_first false e h = refl

-- bytes that pass a stricter test
plain_of : (p : ℕ → Bool) → ((b : ℕ) → p b ≡ true → is_plain b ≡ true) → (xs : List ℕ) → list_all p xs ≡ true → IsPlain xs
plain_of p stricter [] h = refl
plain_of p stricter (x ∷ xs) h =
    let front : is_plain x ≡ true = stricter x (and_left (p x) (list_all p xs) h) in
    rw front (plain_of p stricter xs (and_right (p x) (list_all p xs) h))

-- a blank is not a line feed
plain_blank : (b : ℕ) → is_blank b ≡ true → is_plain b ≡ true
plain_blank b h = grind (arith, nat_tests)

-- a digit is not a line feed
plain_digit : (b : ℕ) → is_ascii_digit b ≡ true → is_plain b ≡ true
plain_digit b h = grind (arith, nat_tests)

-- what a name has is not a line feed
plain_name : (b : ℕ) → continues_name b ≡ true → is_plain b ≡ true
plain_name b h = grind (arith, nat_tests)

-- what is not a line feed as a small letter is none
plain_lower : (b : ℕ) → is_plain (to_ascii_lowercase b) ≡ true → is_plain b ≡ true
plain_lower b h =
    elim (eqb_tells b 10) [
      | inl (on, e) ↦ let f : false ≡ true = rw e at h in absurd (cc)
      | inr (off, n) ↦ rw off refl
    ]

-- no sign of two ends in a line feed
long_sign_feed : (a : ℕ) → long_sign a 10 ≡ None
long_sign_feed a = simp and_false

-- what is taken as a name is one
name_taken : (a : ℕ) (rest : List ℕ) → begins_name a ≡ true → is_name (take (prefix_len continues_name (a ∷ rest)) (a ∷ rest)) ≡ true
name_taken a rest begins = rw (begins, one-add, begins) (all_taken continues_name rest)

-- what is taken as a number is one
pub number_taken : (a : ℕ) (rest : List ℕ) → is_ascii_digit a ≡ true → is_number (take (prefix_len is_ascii_digit (a ∷ rest)) (a ∷ rest)) ≡ true
number_taken a rest digit = rw (digit, one-add, digit) (all_taken is_ascii_digit rest)

-- `;assert` has no line feed
plain_assert : (bytes : List ℕ) → is_same_word bytes (codes ";assert") ≡ true → IsPlain bytes
plain_assert bytes h =
    let same : map to_ascii_lowercase bytes ≡ map to_ascii_lowercase (codes ";assert") = (bytes_eq-Decides (map to_ascii_lowercase bytes) (map to_ascii_lowercase (codes ";assert"))).0 h in
    let lower : list_all is_plain (map to_ascii_lowercase bytes) ≡ true = ap (list_all is_plain) same in
    plain_of (λ b. is_plain (to_ascii_lowercase b)) plain_lower bytes (sym (list_all-map is_plain to_ascii_lowercase bytes) ∙ lower)

-- what a lexeme says of the bytes at the front
abbrev pub Shows : List ℕ → Lexeme → Type 0
Shows text (Trivia len) = IsPlain (take len text)
Shows text LineFeed = take 1 text ≡ LINE_FEED ∷ []
Shows text (TokenOf len kind) = SpellsToken (take len text) kind × IsPlain (take len text)
Shows text (Fault f) = Unit {0}

-- a sign of the last byte
sign_alone : (a : ℕ) → is_plain a ≡ true → (long short : Option Sign) → long_sign a 0 ≡ long → short_sign a ≡ short → Shows (a ∷ []) (sign_lexeme long short)
sign_alone a plain (Some s) short e f = let n = long_sign_zero a in absurd (cc)
sign_alone a plain None (Some s) e f = (f, rw plain refl)
sign_alone a plain None None e f = tt

-- the second byte of a sign is not a line feed
plain_second : (a b : ℕ) (s : Sign) → long_sign a b ≡ Some s → is_plain b ≡ true
plain_second a b s e =
    elim (eqb_tells b 10) [
      | inl (on, f) ↦ let n = long_sign_feed a in let m : long_sign a 10 ≡ Some s = ap (long_sign a) (sym f) ∙ e in absurd (cc)
      | inr (off, n) ↦ rw off refl
    ]

-- a sign with a byte after its first
sign_with_more : (a b : ℕ) (rest : List ℕ) → is_plain a ≡ true → (long short : Option Sign) → long_sign a b ≡ long → short_sign a ≡ short → Shows (a ∷ b ∷ rest) (sign_lexeme long short)
sign_with_more a b rest plain (Some s) short e f = let second = plain_second a b s e in (e, rw (plain, second) refl)
sign_with_more a b rest plain None (Some s) e f = (f, rw plain refl)
sign_with_more a b rest plain None None e f = tt

-- a sign at the front
sign_shows : (a : ℕ) (rest : List ℕ) → is_plain a ≡ true → Shows (a ∷ rest) (sign_lexeme (long_sign a (get_or (a ∷ rest) 1 0)) (short_sign a))
sign_shows a [] plain = sign_alone a plain (long_sign a 0) (short_sign a) refl refl
sign_shows a (b ∷ rest) plain = sign_with_more a b rest plain (long_sign a b) (short_sign a) refl refl

-- a line feed at the front
line_feed_shown : (a : ℕ) (rest : List ℕ) → a == LINE_FEED ≡ true → a ∷ [] ≡ LINE_FEED ∷ []
line_feed_shown a rest h =
    elim (eqb_tells a 10) [
      | inl (on, e) ↦ ap (λ b. b ∷ []) e
      | inr (off, n) ↦ cc
    ]

-- what any text begins with
pub shows : (text : List ℕ) (at_line_start : Bool) → 0 < length text → Shows text (lexeme_of at_line_start text)
shows [] at_line_start h = absurd (omega arith)
shows (a ∷ rest) at_line_start h =
    let text = a ∷ rest in
    if_both (Shows text) (is_blank a) _ _ (λ blank. let p = plain_blank a blank in rw p refl) (λ _.
    if_both (Shows text) (a == LINE_FEED) _ _ (λ feed. line_feed_shown a rest feed) (λ no_feed.
    if_both (Shows text) (a == SEMICOLON) _ _
    (λ _. if_both (Shows text) (at_line_start && is_assert text) _ _
    (λ is. let word = and_left (begins_with_word (codes ";assert") text) (is_blank (get_or text 7 0)) (and_right at_line_start (is_assert text) is) in (word, plain_assert (take 7 text) word))
    (λ _. all_taken is_plain text)) (λ _.
    if_both (Shows text) (begins_name a) _ _
    (λ name. (name_taken a rest name, plain_of continues_name plain_name (take (prefix_len continues_name text) text) (all_taken continues_name text))) (λ _.
    if_both (Shows text) (is_ascii_digit a) _ _
    (λ digit. if_both (Shows text) (nat_lt (decimal_value (take (prefix_len is_ascii_digit text) text)) (2 ^ 32)) _ _
    (λ _. ((number_taken a rest digit, refl), plain_of is_ascii_digit plain_digit (take (prefix_len is_ascii_digit text) text) (all_taken is_ascii_digit text))) (λ _. tt))
    (λ _. sign_shows a rest (rw no_feed refl))))))
