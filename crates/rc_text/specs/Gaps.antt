-- What a text has besides its tokens: blanks and comments.
use Rattle.std.specs.Prelude.{◌≡◌, ◌≢◌, ◌<◌, ◌≤◌, ◌⊎◌, ◌&&◌, ◌^◌, ℕ, Bool, true, false, List, [], ◌∷◌, length, drop, slice_index, slice_range, Option, Some, None}
use Rattle.rc_text.specs.declared.token.Kind.{Kind}
use Rattle.rc_text.specs.declared.token.Kind.TheVariants.{LineEnd}
use Rattle.rc_text.specs.declared.token.Token.{Token}
use Rattle.rc_text.specs.declared.fault.LexFault.{LexFault}
use Rattle.rc_text.specs.declared.fault.LexFault.TheVariants.{BadByte, NumberTooLarge}
use Rattle.rc_text.specs.Bytes.{LINE_FEED, SEMICOLON, is_blank, decimal_value}
use Rattle.rc_text.specs.Tokens.{is_assert}
use Rattle.rc_text.specs.TokenTexts.{is_number, is_one_token}

-- A comment: a semicolon and all that follows it, up to a line feed or the end of the text. At the
-- start of a line, with only blanks before it, it is not `;assert`.
pub record IsComment (text : List ℕ) (at_line_start : Bool) (lo hi : ℕ) : Type 0 where
  pub semicolon : slice_index text lo ≡ SEMICOLON
  pub goes_on : (k : ℕ) → lo ≤ k → k < hi → slice_index text k ≢ LINE_FEED
  pub ends : (hi ≡ length text) ⊎ (slice_index text hi ≡ LINE_FEED)
  pub other : (at_line_start && is_assert (drop lo text)) ≡ false

-- The bytes from `lo` up to `hi`: blanks, and after them nothing or a comment; `at_line_start` says
-- that a line begins at `lo`.
pub record IsGap (text : List ℕ) (at_line_start : Bool) (lo hi : ℕ) : Type 0 where
  pub blanks_end : ℕ
  pub inside : (lo ≤ blanks_end) × (blanks_end ≤ hi)
  pub blanks : (k : ℕ) → lo ≤ k → k < blanks_end → is_blank (slice_index text k) ≡ true
  pub comment : (blanks_end ≡ hi) ⊎ IsComment text at_line_start blanks_end hi

-- A byte that neither a token nor a gap begins with.
pub record IsBadByte (text : List ℕ) (at : ℕ) : Type 0 where
  pub inside : at < length text
  pub no_blank : is_blank (slice_index text at) ≡ false
  pub no_line_feed : slice_index text at ≢ LINE_FEED
  pub no_semicolon : slice_index text at ≢ SEMICOLON
  pub no_token : (end : ℕ) → at < end → end ≤ length text → is_one_token (slice_range text at end) ≡ false

-- What ends the tokens is here: the end of the text, a bad byte, or a decimal of 2 ^ 32 or more.
abbrev pub EndsAt : List ℕ → ℕ → Option LexFault → Type 0
EndsAt text at None = at ≡ length text
EndsAt text at (Some BadByte) = IsBadByte text at
EndsAt text at (Some NumberTooLarge) =
    (end : ℕ) × (is_number (slice_range text at end) ≡ true) × (2 ^ 32 ≤ decimal_value (slice_range text at end))

-- After a line end a line begins.
abbrev pub is_line_end : Kind → Bool
is_line_end LineEnd = true
is_line_end _ = false

-- From `lo` on there is a gap before each of the tokens, and one after the last, up to what ends
-- them.
abbrev pub OnlyGapsBetween : List ℕ → (at_line_start : Bool) → (lo : ℕ) → List Token → Option LexFault → Type 0
OnlyGapsBetween text at_line_start lo [] ending = (end : ℕ) × IsGap text at_line_start lo end × EndsAt text end ending
OnlyGapsBetween text at_line_start lo (t ∷ ts) ending = IsGap text at_line_start lo t.lo × OnlyGapsBetween text (is_line_end t.kind) t.hi ts ending
