-- Between the tokens of a text there are only gaps.
use Rattle.std.proofs.Common.{◌≡◌, ◌≢◌, ℕ, suc, zero, ◌+◌, ◌-◌, ◌≤◌, ◌<◌, Bool, true, false, List, [], ◌∷◌, get_or, take, drop, drop-drop, length-drop, length, refl, sym, subst, arith, ap, ◌∙◌, inl, inr}
use Rattle.std.specs.Prelude.{All, Option, Some, None, if◌then◌else◌, ◌&&◌, ◌||◌, ◌==◌, ◌⊎◌, ◌^◌, nat_lt, not, codes, unwrap_or}
use Rattle.std.specs.Char.{is_ascii_digit}
use Rattle.std.specs.List.{prefix_len}
use Rattle.std.proofs.lemmas.Bool.Decides.{nat_tests}
use Rattle.std.proofs.lemmas.List.{get_or-drop}
use Rattle.std.proofs.lemmas.List.Sums.{prefix_len_passes, prefix_len_stops}
use Rattle.rc_text.specs.declared.header.Extent.{Extent}
use Rattle.rc_text.specs.declared.token.Sign.{Sign}
use Rattle.rc_text.specs.declared.fault.LexFault.{LexFault}
use Rattle.rc_text.specs.declared.fault.LexFault.TheVariants.{BadByte, NumberTooLarge}
use Rattle.rc_text.specs.declared.lexeme.Lexeme.{Lexeme}
use Rattle.rc_text.specs.declared.lexeme.Lexeme.TheVariants.{Trivia, LineFeed, Token as TokenOf, Fault}
use Rattle.rc_text.specs.Bytes.{is_blank, LINE_FEED, SEMICOLON, begins_name, decimal_value, begins_with_word}
use Rattle.rc_text.specs.Signs.{long_sign, short_sign}
use Rattle.rc_text.specs.Headers.{extent, further_on, header_from, header_of}
use Rattle.rc_text.specs.Tokens.{lexeme_of, sign_lexeme, is_assert, comment_len, tokens_from, tokens_of, TokenList, InOrder}
use Rattle.rc_text.specs.Symbols.{LiesIn}
use Rattle.rc_text.specs.TokenTexts.{is_number, is_one_token}
use Rattle.rc_text.specs.Gaps.{IsComment, IsGap, EndsAt, is_line_end, OnlyGapsBetween}
use Rattle.rc_text.proofs.LexemeSteps.{FitsIn, lexeme_fits, LiesAhead, lies_ahead, if_both}
use Rattle.rc_text.proofs.LongestTokens.{no_sign, no_token, longer_other}
use Rattle.rc_text.proofs.SpelledTokens.{number_taken}
use Rattle.rc_text.proofs.Spans.{in_order_at, all_inside}

-- what a lexeme says of the bytes at the front, where it is passed over or ends the tokens
abbrev Says : List ℕ → Bool → Lexeme → Type 0
Says bs at_line_start (Trivia len) =
    ((is_blank (get_or bs 0 0) ≡ true) × (len ≡ 1))
    ⊎ ((get_or bs 0 0 == SEMICOLON ≡ true) × ((at_line_start && is_assert bs) ≡ false) × (len ≡ comment_len bs))
Says bs at_line_start LineFeed = Unit {0}
Says bs at_line_start (TokenOf len kind) = is_line_end kind ≡ false
Says bs at_line_start (Fault BadByte) =
    (is_blank (get_or bs 0 0) ≡ false) × (get_or bs 0 0 == LINE_FEED ≡ false) × (get_or bs 0 0 == SEMICOLON ≡ false)
    × ((n : ℕ) → 0 < n → n ≤ length bs → is_one_token (take n bs) ≡ false)
Says bs at_line_start (Fault NumberTooLarge) = (n : ℕ) × (is_number (take n bs) ≡ true) × (2 ^ 32 ≤ decimal_value (take n bs))

-- where neither a name nor a number nor a sign begins, no token does
no_token_at : (a : ℕ) (rest : List ℕ) → begins_name a ≡ false → is_ascii_digit a ≡ false → long_sign a (get_or (a ∷ rest) 1 0) ≡ None → short_sign a ≡ None
    → (n : ℕ) → 0 < n → n ≤ length (a ∷ rest) → is_one_token (take n (a ∷ rest)) ≡ false
no_token_at a rest no_name no_digit no_long no_short zero pos le = absurd (omega arith)
no_token_at a rest no_name no_digit no_long no_short (suc zero) pos le = no_token (a ∷ []) (rw no_name refl) (rw no_digit refl) (rw no_short refl)
no_token_at a [] no_name no_digit no_long no_short (suc (suc k)) pos le = absurd (omega arith)
no_token_at a (b ∷ rest) no_name no_digit no_long no_short (suc (suc k)) pos le =
    longer_other a b rest k (omega arith) no_name no_digit (no_sign a b (take k rest) no_long)

-- a byte that begins neither a name nor a number
sign_says : (a : ℕ) (rest : List ℕ) (at_line_start : Bool) → is_blank a ≡ false → a == LINE_FEED ≡ false → a == SEMICOLON ≡ false → begins_name a ≡ false → is_ascii_digit a ≡ false
    → (long short : Option Sign) → long_sign a (get_or (a ∷ rest) 1 0) ≡ long → short_sign a ≡ short → Says (a ∷ rest) at_line_start (sign_lexeme long short)
sign_says a rest at_line_start no_blank no_feed no_semicolon no_name no_digit (Some s) short e f = refl
sign_says a rest at_line_start no_blank no_feed no_semicolon no_name no_digit None (Some s) e f = refl
sign_says a rest at_line_start no_blank no_feed no_semicolon no_name no_digit None None e f =
    (no_blank, no_feed, no_semicolon, no_token_at a rest no_name no_digit e f)

-- digits of too large a number
large_says : (a : ℕ) (rest : List ℕ) (value : ℕ) → is_ascii_digit a ≡ true → value ≡ decimal_value (take (prefix_len is_ascii_digit (a ∷ rest)) (a ∷ rest)) → nat_lt value (2 ^ 32) ≡ false
    → (n : ℕ) × (is_number (take n (a ∷ rest)) ≡ true) × (2 ^ 32 ≤ decimal_value (take n (a ∷ rest)))
large_says a rest value digit e large =
    let least : 2 ^ 32 ≤ value = grind (arith, nat_tests) in
    (prefix_len is_ascii_digit (a ∷ rest), number_taken a rest digit, subst (λ v. 2 ^ 32 ≤ v) e least)

-- what any text begins with
says : (text : List ℕ) (at_line_start : Bool) → 0 < length text → Says text at_line_start (lexeme_of at_line_start text)
says [] at_line_start h = absurd (omega arith)
says (a ∷ rest) at_line_start h =
    let text = a ∷ rest in
    if_both (Says text at_line_start) (is_blank a) _ _ (λ blank. inl (blank, refl)) (λ no_blank.
    if_both (Says text at_line_start) (a == LINE_FEED) _ _ (λ _. tt) (λ no_feed.
    if_both (Says text at_line_start) (a == SEMICOLON) _ _
    (λ semicolon. if_both (Says text at_line_start) (at_line_start && is_assert text) _ _ (λ _. refl) (λ other. inr (semicolon, other, refl))) (λ no_semicolon.
    if_both (Says text at_line_start) (begins_name a) _ _ (λ _. refl) (λ no_name.
    if_both (Says text at_line_start) (is_ascii_digit a) _ _
    (λ digit. if_both (Says text at_line_start) (nat_lt (decimal_value (take (prefix_len is_ascii_digit text) text)) (2 ^ 32)) _ _ (λ _. refl) (λ large. large_says a rest _ digit refl large))
    (λ no_digit. sign_says a rest at_line_start no_blank no_feed no_semicolon no_name no_digit (long_sign a (get_or text 1 0)) (short_sign a) refl refl)))))

-- a gap of no byte
empty_gap : (text : List ℕ) (at_line_start : Bool) (at : ℕ) → IsGap text at_line_start at at
empty_gap text at_line_start at = record {
  blanks_end = at;
  inside = (omega arith, omega arith);
  blanks = λ k ge lt. absurd (omega arith);
  comment = inl refl;
}

-- a byte of what is left
byte_at : (text : List ℕ) (at j k : ℕ) → k ≡ at + j → get_or text k 0 ≡ get_or (drop at text) j 0
byte_at text at j k e = rw (e, get_or-drop) refl

module _ (text : List ℕ) (at_line_start : Bool) (lo at : ℕ) (inside : at < length text) (gap : IsGap text at_line_start lo at) where
  -- a blank after a gap of blanks
  with_blank : gap.blanks_end ≡ at → is_blank (get_or (drop at text) 0 0) ≡ true → IsGap text at_line_start lo (at + 1)
  with_blank e blank = record {
    blanks_end = at + 1;
    inside = (omega (arith, gap.inside.0), omega arith);
    blanks = λ k ge lt. by_place k (up_to k lt) ge;
    comment = inl refl;
  } where
    up_to : (k : ℕ) → k < at + 1 → (k < at) ⊎ (k ≡ at)
    up_to k lt = grind arith

    by_place : (k : ℕ) → (k < at) ⊎ (k ≡ at) → lo ≤ k → is_blank (get_or text k 0) ≡ true
    by_place k (inl lt) ge = gap.blanks k ge (omega arith)
    by_place k (inr same) ge = ap is_blank (byte_at text at 0 k (omega arith)) ∙ blank

  -- a comment at a semicolon
  comment_at : (len : ℕ) → get_or (drop at text) 0 0 == SEMICOLON ≡ true → (at_line_start && is_assert (drop at text)) ≡ false → len ≡ comment_len (drop at text) → len ≤ length (drop at text)
      → IsComment text at_line_start at (at + len)
  comment_at len semicolon other e le = record {
    semicolon = byte_at text at 0 at (omega arith) ∙ is_semicolon;
    goes_on = λ k ge lt. goes_on k ge (omega arith);
    ends = by_end ends;
    other = other;
  } where
    is_semicolon : get_or (drop at text) 0 0 ≡ SEMICOLON
    is_semicolon = grind (arith, nat_tests)

    goes_on : (k : ℕ) → at ≤ k → k - at < len → get_or text k 0 ≢ LINE_FEED
    goes_on k ge lt same =
        let passes = prefix_len_passes (λ b. not (b == LINE_FEED)) (drop at text) (k - at) 0 (omega (arith, e)) in
        let there : get_or (drop at text) (k - at) 0 ≡ 10 = sym (byte_at text at (k - at) k (omega arith)) ∙ same in
        let f : false ≡ true = rw there at passes in
        absurd (cc)

    ends : (at + len ≡ length text) ⊎ (len < length (drop at text))
    ends = let size = length-drop at text in grind arith

    by_end : (at + len ≡ length text) ⊎ (len < length (drop at text)) → (at + len ≡ length text) ⊎ (get_or text (at + len) 0 ≡ LINE_FEED)
    by_end (inl same) = inl same
    by_end (inr lt) =
        let stops = prefix_len_stops (λ b. not (b == LINE_FEED)) (drop at text) 0 (omega (arith, e)) in
        let there : get_or text (at + len) 0 ≡ get_or (drop at text) (comment_len (drop at text)) 0 = byte_at text at (comment_len (drop at text)) (at + len) (omega arith) in
        let feed : get_or (drop at text) (comment_len (drop at text)) 0 ≡ 10 = grind (arith, nat_tests, stops) in
        inr (there ∙ feed)

  -- after a comment there is a line feed
  feed_after : IsComment text at_line_start gap.blanks_end at → get_or (drop at text) 0 0 ≡ LINE_FEED
  feed_after c = by_end c.ends where
    by_end : (at ≡ length text) ⊎ (get_or text at 0 ≡ LINE_FEED) → get_or (drop at text) 0 0 ≡ LINE_FEED
    by_end (inl same) = absurd (omega arith)
    by_end (inr feed) = sym (byte_at text at 0 at (omega arith)) ∙ feed

  -- the gap goes on with what is passed over
  gap_more : (len : ℕ) → len ≤ length (drop at text) → Says (drop at text) at_line_start (Trivia len) → IsGap text at_line_start lo (at + len)
  gap_more len le said = by_case gap.comment said where
    by_case : (gap.blanks_end ≡ at) ⊎ IsComment text at_line_start gap.blanks_end at → Says (drop at text) at_line_start (Trivia len) → IsGap text at_line_start lo (at + len)
    by_case (inl same) (inl blank) = rw blank.1 (with_blank same blank.0)
    by_case (inl same) (inr comment) = record {
      blanks_end = at;
      inside = (omega (arith, gap.inside.0), omega arith);
      blanks = λ k ge lt. gap.blanks k ge (omega arith);
      comment = inr (comment_at len comment.0 comment.1 comment.2 le);
    }
    by_case (inr before) (inl blank) = let f : is_blank 10 ≡ true = ap is_blank (sym (feed_after before)) ∙ blank.0 in absurd (cc)
    by_case (inr before) (inr comment) = let f : 10 == SEMICOLON ≡ true = ap (λ b. b == SEMICOLON) (sym (feed_after before)) ∙ comment.0 in absurd (cc)

-- a fault at a place of the text
fault_here : (text : List ℕ) (at_line_start : Bool) (at : ℕ) (fault : LexFault) → at < length text → Says (drop at text) at_line_start (Fault fault) → EndsAt text at (Some fault)
fault_here text at_line_start at BadByte inside said =
    let here = byte_at text at 0 at (omega arith) in
    let size = length-drop at text in
    record {
      inside = inside;
      no_blank = ap is_blank here ∙ said.0;
      no_line_feed = λ same. let f : 10 == LINE_FEED ≡ false = ap (λ b. b == LINE_FEED) (sym same ∙ here) ∙ said.1 in absurd (cc);
      no_semicolon = λ same. let f : 59 == SEMICOLON ≡ false = ap (λ b. b == SEMICOLON) (sym same ∙ here) ∙ said.2 in absurd (cc);
      no_token = λ end gt le. said.3 (end - at) (omega arith) (omega arith);
    }
fault_here text at_line_start at NumberTooLarge inside said =
    let width : at + said.0 - at ≡ said.0 = omega arith in
    (at + said.0, rw width said.1, rw width said.2)

-- gaps between the tokens of a list, up to its end
abbrev Gaps : List ℕ → Bool → ℕ → TokenList → Type 0
Gaps text at_line_start lo l = OnlyGapsBetween text at_line_start lo l.tokens l.ending

-- after a gap, by what the rest of the text begins with
by_lexeme : (text bs : List ℕ) (fuel : ℕ) (at_line_start : Bool) (lo at line : ℕ) (l : Lexeme) → bs ≡ drop at text → length bs ≤ suc fuel → at < length text → IsGap text at_line_start lo at
    → FitsIn bs l → LiesAhead bs at_line_start at line l → Says bs at_line_start l
    → ((cs : List ℕ) (at_line_start : Bool) (lo at line : ℕ) → cs ≡ drop at text → length cs ≤ fuel → at ≤ length text → IsGap text at_line_start lo at → Gaps text at_line_start lo (tokens_from cs 0 at_line_start at line))
    → Gaps text at_line_start lo (tokens_from bs 0 at_line_start at line)
by_lexeme text bs fuel at_line_start lo at line (Trivia len) e size inside gap fits lies said more =
    let f = length-drop at text in
    let g = length-drop len bs in
    let h = ap length e in
    let d : drop len bs ≡ drop (at + len) text = ap (drop len) e ∙ (rw drop-drop refl) in
    subst (Gaps text at_line_start lo) (sym lies)
    (more (drop len bs) at_line_start lo (at + len) line d (omega (arith, fits.0)) (omega (arith, fits.1))
    (gap_more text at_line_start lo at inside gap len (subst (λ xs. len ≤ length xs) e fits.1) (subst (λ xs. Says xs at_line_start (Trivia len)) e said)))
by_lexeme text bs fuel at_line_start lo at line LineFeed e size inside gap fits lies said more =
    let g = length-drop 1 bs in
    let d : drop 1 bs ≡ drop (at + 1) text = ap (drop 1) e ∙ (rw drop-drop refl) in
    subst (Gaps text at_line_start lo) (sym lies) (gap, more (drop 1 bs) true (at + 1) (at + 1) (line + 1) d (omega (arith, fits)) (omega arith) (empty_gap text true (at + 1)))
by_lexeme text bs fuel at_line_start lo at line (TokenOf len kind) e size inside gap fits lies said more =
    let f = length-drop at text in
    let g = length-drop len bs in
    let h = ap length e in
    let d : drop len bs ≡ drop (at + len) text = ap (drop len) e ∙ (rw drop-drop refl) in
    subst (Gaps text at_line_start lo) (sym lies) (
      gap,
      subst (λ b. Gaps text b (at + len) (tokens_from (drop len bs) 0 false (at + len) line)) (sym said)
          (more (drop len bs) false (at + len) (at + len) line d (omega (arith, fits.0)) (omega (arith, fits.1)) (empty_gap text false (at + len))),
    )
by_lexeme text bs fuel at_line_start lo at line (Fault fault) e size inside gap fits lies said more =
    subst (Gaps text at_line_start lo) (sym lies) (at, gap, fault_here text at_line_start at fault inside (subst (λ xs. Says xs at_line_start (Fault fault)) e said))

-- after a gap
gaps_from : (text : List ℕ) (fuel : ℕ) (bs : List ℕ) (at_line_start : Bool) (lo at line : ℕ) → bs ≡ drop at text → length bs ≤ fuel → at ≤ length text → IsGap text at_line_start lo at
    → Gaps text at_line_start lo (tokens_from bs 0 at_line_start at line)
gaps_from text fuel [] at_line_start lo at line e size le gap = let f = length-drop at text in let g = ap length e in (at, gap, omega arith)
gaps_from text zero (b ∷ rest) at_line_start lo at line e size le gap = absurd (omega arith)
gaps_from text (suc fuel) (b ∷ rest) at_line_start lo at line e size le gap =
    let f = length-drop at text in
    let g = ap length e in
    by_lexeme text (b ∷ rest) fuel at_line_start lo at line (lexeme_of at_line_start (b ∷ rest)) e size (omega arith) gap (lexeme_fits (b ∷ rest) at_line_start (omega arith)) (lies_ahead (b ∷ rest) at_line_start at line (omega arith))
    (says (b ∷ rest) at_line_start (omega arith)) (gaps_from text fuel)

-- a header is within the text
abbrev FitsHeader : List ℕ → Option Extent → Type 0
FitsHeader text None = Unit {0}
FitsHeader text (Some e) = e.bytes ≤ length text

-- one byte more
fits_more : (b : ℕ) (rest : List ℕ) (n : ℕ) (o : Option Extent) → FitsHeader rest o → FitsHeader (b ∷ rest) (further_on 1 n o)
fits_more b rest n None h = tt
fits_more b rest n (Some e) h = omega arith

-- the header in the rest of a text
header_fits : (bs : List ℕ) (begins found : Bool) → FitsHeader bs (header_from bs begins found)
header_fits [] begins false = tt
header_fits [] begins true = omega arith
header_fits (b ∷ rest) begins found =
    by_byte (b == LINE_FEED) (found || (begins && begins_with_word (codes ";redcode") (b ∷ rest))) (header_fits rest true false) (header_fits rest false) where
      by_byte : (feed here : Bool) → FitsHeader rest (header_from rest true false) → ((f : Bool) → FitsHeader rest (header_from rest false f))
          → FitsHeader (b ∷ rest) (if feed then (if here then Some (extent 1 1) else further_on 1 1 (header_from rest true false)) else further_on 1 0 (header_from rest false here))
      by_byte true true h k = omega arith
      by_byte true false h k = fits_more b rest 1 (header_from rest true false) h
      by_byte false here h k = fits_more b rest 0 (header_from rest false here) (k here)

-- the same where there is none
header_of_fits : (text : List ℕ) (o : Option Extent) → FitsHeader text o → (unwrap_or o (extent 0 0)).bytes ≤ length text
header_of_fits text None h = omega arith
header_of_fits text (Some e) h = h

-- the header of a text
header_inside : (text : List ℕ) → (header_of text).bytes ≤ length text
header_inside text = header_of_fits text (header_from text true false) (header_fits text true false)

-- the spans of the tokens follow one another after the header
pub in_order_after_header : (text : List ℕ) → InOrder (header_of text).bytes (length text) (tokens_of text).tokens
in_order_after_header text = in_order_at text true (header_of text).bytes (1 + (header_of text).lines) (header_inside text)

-- so they lie in the text
pub lie_in_the_text : (text : List ℕ) → All (LiesIn text) (tokens_of text).tokens
lie_in_the_text text = all_inside text (header_of text).bytes (tokens_of text).tokens (in_order_after_header text)

-- the tokens of a text have only gaps between them
pub only_gaps : (text : List ℕ) → OnlyGapsBetween text true (header_of text).bytes (tokens_of text).tokens (tokens_of text).ending
only_gaps text =
    let h = header_of text in
    gaps_from text (length (drop h.bytes text)) (drop h.bytes text) true h.bytes h.bytes (1 + h.lines) refl (omega arith) (header_inside text) (empty_gap text true h.bytes)
