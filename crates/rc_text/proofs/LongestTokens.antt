-- No longer token begins where one was taken.
use Rattle.std.proofs.Common.{◌≡◌, ℕ, suc, zero, ◌+◌, ◌≤◌, ◌<◌, Bool, true, false, cond, List, [], ◌∷◌, take, length, refl, arith}
use Rattle.std.specs.Prelude.{Option, Some, None, ◌&&◌, ◌||◌, ◌==◌, nat_lt, is_some, ◌^◌}
use Rattle.std.specs.Char.{is_ascii_digit}
use Rattle.std.specs.List.{prefix_len, list_all}
use Rattle.std.proofs.lemmas.Bool.Decides.{nat_tests}
use Rattle.rc_text.specs.declared.token.Sign.{Sign}
use Rattle.rc_text.specs.declared.lexeme.Lexeme.{Lexeme}
use Rattle.rc_text.specs.declared.lexeme.Lexeme.TheVariants.{Trivia, LineFeed, Token as TokenOf, Fault}
use Rattle.rc_text.specs.Bytes.{is_blank, LINE_FEED, SEMICOLON, begins_name, continues_name, decimal_value}
use Rattle.rc_text.specs.Signs.{long_sign, short_sign}
use Rattle.rc_text.specs.Tokens.{lexeme_of, sign_lexeme, is_assert}
use Rattle.rc_text.specs.NameClasses.{is_name}
use Rattle.rc_text.specs.TokenTexts.{is_number, sign_of, is_one_token}
use Rattle.rc_text.proofs.LexemeSteps.{FitsIn, lexeme_fits, front_fits, if_both}

-- more bytes than a run has do not all pass
not_all : (p : ℕ → Bool) (xs : List ℕ) (n : ℕ) → prefix_len p xs < n → n ≤ length xs → list_all p (take n xs) ≡ false
not_all p [] n h k = absurd (omega arith)
not_all p (x ∷ xs) zero h k = absurd (omega arith)
not_all p (x ∷ xs) (suc n) h k = by_first (p x) refl (not_all p xs n) h where
  by_first : (b : Bool) → p x ≡ b → (prefix_len p xs < n → n ≤ length xs → list_all p (take n xs) ≡ false) → cond b (1 + prefix_len p xs) 0 < suc n → list_all p (x ∷ take n xs) ≡ false
  by_first true e more lt = rw e (more (omega arith) (omega arith))
  by_first false e more lt = rw e refl

-- bytes that begin a sign of two
abbrev pub begins_long : ℕ → Bool
begins_long b = b == 60 || (b == 62 || (b == 61 || (b == 33 || (b == 38 || b == 124))))

-- another byte begins no sign of two
no_long : (a b : ℕ) → begins_long a ≡ false → long_sign a b ≡ None
no_long a b h =
    let p : (a == 60) ≡ false = grind (arith, nat_tests) in
    let q : (a == 62) ≡ false = grind (arith, nat_tests) in
    let r : (a == 61) ≡ false = grind (arith, nat_tests) in
    let s : (a == 33) ≡ false = grind (arith, nat_tests) in
    let t : (a == 38) ≡ false = grind (arith, nat_tests) in
    let u : (a == 124) ≡ false = grind (arith, nat_tests) in
    rw (p, q, r, s, t, u) refl

-- what begins a name begins no sign of two
name_begins_no_long : (a : ℕ) → begins_name a ≡ true → begins_long a ≡ false
name_begins_no_long a h = grind (arith, nat_tests)

-- a digit begins no sign of two
digit_begins_no_long : (a : ℕ) → is_ascii_digit a ≡ true → begins_long a ≡ false
digit_begins_no_long a h = grind (arith, nat_tests)

-- what begins a name is not a digit
name_is_no_digit : (a : ℕ) → begins_name a ≡ true → is_ascii_digit a ≡ false
name_is_no_digit a h = grind (arith, nat_tests)

-- a digit begins no name
digit_begins_no_name : (a : ℕ) → is_ascii_digit a ≡ true → begins_name a ≡ false
digit_begins_no_name a h = grind (arith, nat_tests)

-- two bytes or more; the first does not begin a sign of two
pub no_sign : (a b : ℕ) (rest : List ℕ) → long_sign a b ≡ None → is_some (sign_of (a ∷ b ∷ rest)) ≡ false
no_sign a b [] h = rw h refl
no_sign a b (c ∷ rest) h = refl

-- no name, no number and no sign
pub no_token : (bytes : List ℕ) → is_name bytes ≡ false → is_number bytes ≡ false → is_some (sign_of bytes) ≡ false → is_one_token bytes ≡ false
no_token bytes n d s = rw (n, d, s) refl

module _ (a b : ℕ) (rest : List ℕ) (k : ℕ) (within : k ≤ length rest) where
  -- after a name
  longer_name : begins_name a ≡ true → prefix_len continues_name (a ∷ b ∷ rest) < suc (suc k) → is_one_token (take (suc (suc k)) (a ∷ b ∷ rest)) ≡ false
  longer_name begins over =
      let goes_on : continues_name a ≡ true = rw begins refl in
      let others : list_all continues_name (take (suc k) (b ∷ rest)) ≡ false = not_all continues_name (b ∷ rest) (suc k) (short goes_on over) (omega arith) in
      no_token (a ∷ b ∷ take k rest) (rw (begins, others) refl) (rw (name_is_no_digit a begins) refl) (no_sign a b (take k rest) (no_long a b (name_begins_no_long a begins))) where
        short : continues_name a ≡ true → cond (continues_name a) (1 + prefix_len continues_name (b ∷ rest)) 0 < suc (suc k) → prefix_len continues_name (b ∷ rest) < suc k
        short e h = let g : cond true (1 + prefix_len continues_name (b ∷ rest)) 0 < suc (suc k) = rw e at h in omega (arith, g)

  -- after a number
  longer_number : is_ascii_digit a ≡ true → prefix_len is_ascii_digit (a ∷ b ∷ rest) < suc (suc k) → is_one_token (take (suc (suc k)) (a ∷ b ∷ rest)) ≡ false
  longer_number digit over =
      no_token (a ∷ b ∷ take k rest) (rw (digit_begins_no_name a digit) refl) (not_all is_ascii_digit (a ∷ b ∷ rest) (suc (suc k)) over (omega arith)) (no_sign a b (take k rest) (no_long a b (digit_begins_no_long a digit)))

  -- where neither a name nor a number begins
  pub longer_other : begins_name a ≡ false → is_ascii_digit a ≡ false → is_some (sign_of (a ∷ b ∷ take k rest)) ≡ false → is_one_token (take (suc (suc k)) (a ∷ b ∷ rest)) ≡ false
  longer_other no_name no_digit no_sign = no_token (a ∷ b ∷ take k rest) (rw no_name refl) (rw no_digit refl) no_sign

-- no longer token begins at the front of the text than the one that was taken
abbrev pub NoLonger : List ℕ → Lexeme → Type 0
NoLonger text (Trivia len) = Unit {0}
NoLonger text LineFeed = (n : ℕ) → 1 < n → n ≤ length text → is_one_token (take n text) ≡ false
NoLonger text (TokenOf len kind) = (n : ℕ) → len < n → n ≤ length text → is_one_token (take n text) ≡ false
NoLonger text (Fault f) = Unit {0}

-- a longer text than a lexeme has two bytes at least
two_or_more : (text : List ℕ) (len : ℕ) → 0 < len → ((k : ℕ) → len < suc (suc k) → suc (suc k) ≤ length text → is_one_token (take (suc (suc k)) text) ≡ false) → (n : ℕ) → len < n → n ≤ length text → is_one_token (take n text) ≡ false
two_or_more text len pos h zero lt le = absurd (omega arith)
two_or_more text len pos h (suc zero) lt le = absurd (omega arith)
two_or_more text len pos h (suc (suc k)) lt le = h k lt le

-- a text of one byte has no longer token
one_byte : (a : ℕ) (l : Lexeme) → FitsIn (a ∷ []) l → NoLonger (a ∷ []) l
one_byte a (Trivia len) fits = tt
one_byte a LineFeed fits = λ n lt le. absurd (omega arith)
one_byte a (TokenOf len kind) fits = λ n lt le. absurd (omega (arith, fits.0))
one_byte a (Fault f) fits = tt

module _ (a b : ℕ) (rest : List ℕ) where
  -- after what begins neither a name nor a number nor a sign of two
  after_other : (len : ℕ) → 0 < len → begins_name a ≡ false → is_ascii_digit a ≡ false → begins_long a ≡ false → (n : ℕ) → len < n → n ≤ length (a ∷ b ∷ rest) → is_one_token (take n (a ∷ b ∷ rest)) ≡ false
  after_other len pos no_name no_digit no_sign_of_two =
      two_or_more (a ∷ b ∷ rest) len pos (λ k lt le. longer_other a b rest k (omega arith) no_name no_digit (no_sign a b (take k rest) (no_long a b no_sign_of_two)))

  -- no sign has three bytes
  three_are_no_sign : (k : ℕ) (cs : List ℕ) → 1 ≤ k → k ≤ length cs → is_some (sign_of (a ∷ b ∷ take k cs)) ≡ false
  three_are_no_sign zero cs h le = absurd (omega arith)
  three_are_no_sign (suc k) [] h le = absurd (omega arith)
  three_are_no_sign (suc k) (c ∷ cs) h le = refl

  -- after a sign
  after_sign : begins_name a ≡ false → is_ascii_digit a ≡ false → (long short : Option Sign) → long_sign a b ≡ long → NoLonger (a ∷ b ∷ rest) (sign_lexeme long short)
  after_sign no_name no_digit (Some s) short e = two_or_more (a ∷ b ∷ rest) 2 (omega arith) (λ k lt le. longer_other a b rest k (omega arith) no_name no_digit (three_are_no_sign k rest (omega arith) (omega arith)))
  after_sign no_name no_digit None (Some s) e = two_or_more (a ∷ b ∷ rest) 1 (omega arith) (λ k lt le. longer_other a b rest k (omega arith) no_name no_digit (no_sign a b (take k rest) e))
  after_sign no_name no_digit None None e = tt

  -- a line feed begins nothing of these
  line_feed_is_other : a == LINE_FEED ≡ true → (begins_name a ≡ false) × (is_ascii_digit a ≡ false) × (begins_long a ≡ false)
  line_feed_is_other h = (grind (arith, nat_tests), grind (arith, nat_tests), grind (arith, nat_tests))

  -- a semicolon begins nothing of these
  semicolon_is_other : a == SEMICOLON ≡ true → (begins_name a ≡ false) × (is_ascii_digit a ≡ false) × (begins_long a ≡ false)
  semicolon_is_other h = (grind (arith, nat_tests), grind (arith, nat_tests), grind (arith, nat_tests))

  -- a text of two bytes or more
  two_bytes : (at_line_start : Bool) → NoLonger (a ∷ b ∷ rest) (lexeme_of at_line_start (a ∷ b ∷ rest))
  two_bytes at_line_start =
      let text = a ∷ b ∷ rest in
      if_both (NoLonger text) (is_blank a) _ _ (λ _. tt) (λ _.
      if_both (NoLonger text) (a == LINE_FEED) _ _ (λ feed. let o = line_feed_is_other feed in after_other 1 (omega arith) o.0 o.1 o.2) (λ _.
      if_both (NoLonger text) (a == SEMICOLON) _ _
      (λ semicolon. if_both (NoLonger text) (at_line_start && is_assert text) _ _ (λ _. let o = semicolon_is_other semicolon in after_other 7 (omega arith) o.0 o.1 o.2) (λ _. tt)) (λ _.
      if_both (NoLonger text) (begins_name a) _ _
      (λ name. two_or_more text (prefix_len continues_name text) ((front_fits continues_name text (omega arith) (rw name refl)).0) (λ k lt le. longer_name a b rest k (omega arith) name lt)) (λ no_name.
      if_both (NoLonger text) (is_ascii_digit a) _ _
      (λ digit. if_both (NoLonger text) (nat_lt (decimal_value (take (prefix_len is_ascii_digit text) text)) (2 ^ 32)) _ _
      (λ _. two_or_more text (prefix_len is_ascii_digit text) ((front_fits is_ascii_digit text (omega arith) digit).0) (λ k lt le. longer_number a b rest k (omega arith) digit lt)) (λ _. tt))
      (λ no_digit. after_sign no_name no_digit (long_sign a b) (short_sign a) refl)))))

-- any text
pub no_longer : (text : List ℕ) (at_line_start : Bool) → 0 < length text → NoLonger text (lexeme_of at_line_start text)
no_longer [] at_line_start h = absurd (omega arith)
no_longer (a ∷ []) at_line_start h = one_byte a (lexeme_of at_line_start (a ∷ [])) (lexeme_fits (a ∷ []) at_line_start h)
no_longer (a ∷ b ∷ rest) at_line_start h = two_bytes a b rest at_line_start
