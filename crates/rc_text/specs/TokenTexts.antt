-- The text of a token: it spells the token, and no longer token begins at its first byte.
use Rattle.std.specs.Prelude.{◌≡◌, ◌<◌, ◌≤◌, ◌+◌, ◌==◌, ℕ, suc, Bool, true, false, ◌||◌, List, [], ◌∷◌, length, take, slice_range, Option, Some, None, is_some, if◌then◌else◌, codes}
use Rattle.std.specs.Char.{is_ascii_digit}
use Rattle.std.specs.List.{list_all}
use Rattle.rc_text.specs.declared.token.Sign.{Sign}
use Rattle.rc_text.specs.declared.token.Kind.{Kind}
use Rattle.rc_text.specs.declared.token.Kind.TheVariants.{Name, Number, Sign as SignOf, Assert, LineEnd}
use Rattle.rc_text.specs.declared.token.Token.{Token}
use Rattle.rc_text.specs.Bytes.{LINE_FEED, is_same_word, decimal_value}
use Rattle.rc_text.specs.Signs.{long_sign, short_sign}
use Rattle.rc_text.specs.NameClasses.{is_name}

-- One or more decimal digits, and nothing else.
abbrev pub is_number : List ℕ → Bool
is_number [] = false
is_number (b ∷ rest) = list_all is_ascii_digit (b ∷ rest)

-- The sign that exactly these bytes spell.
abbrev pub sign_of : List ℕ → Option Sign
sign_of [] = None
sign_of (a ∷ []) = short_sign a
sign_of (a ∷ b ∷ []) = long_sign a b
sign_of (a ∷ b ∷ c ∷ rest) = None

-- All of the bytes are one name, one decimal or one sign.
abbrev pub is_one_token : List ℕ → Bool
is_one_token bytes = is_name bytes || (is_number bytes || is_some (sign_of bytes))

-- The bytes spell a token of this kind.
abbrev pub SpellsToken : List ℕ → Kind → Type 0
SpellsToken bytes Name = is_name bytes ≡ true
SpellsToken bytes (Number n) = (is_number bytes ≡ true) × (decimal_value bytes ≡ n)
SpellsToken bytes (SignOf s) = sign_of bytes ≡ Some s
SpellsToken bytes Assert = is_same_word bytes (codes ";assert") ≡ true
SpellsToken bytes LineEnd = bytes ≡ LINE_FEED ∷ []

-- The number of line feeds.
abbrev pub line_feed_count : List ℕ → ℕ
line_feed_count [] = 0
line_feed_count (b ∷ rest) = if b == LINE_FEED then suc (line_feed_count rest) else line_feed_count rest

-- The bytes of the token's span spell it, and no longer span from its first byte is a name, a
-- decimal or a sign. Its line is 1 plus the number of line feeds before it. No counter is joined to
-- it.
pub record StandsIn (text : List ℕ) (t : Token) : Type 0 where
  pub spelled : SpellsToken (slice_range text t.lo t.hi) t.kind
  pub longest : (end : ℕ) → t.hi < end → end ≤ length text → is_one_token (slice_range text t.lo end) ≡ false
  pub line : t.line ≡ 1 + line_feed_count (take t.lo text)
  pub unjoined : t.joined ≡ []
