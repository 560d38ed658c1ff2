-- The tokens of a text: names, decimals, signs (Signs.antt says whose), line ends, and `;assert` as
-- one token.
use Rattle.std.specs.Prelude.{◌≤◌, ◌<◌, ◌≡◌, Result, Ok, Err, ℕ, zero, suc, Bool, true, false, not, ◌&&◌, ◌==◌, ◌+◌, ◌-◌, ◌^◌, nat_lt, List, [], ◌∷◌, slice_index, take, drop, Option, Some, None, if◌then◌else◌, codes}
use Rattle.std.specs.Char.{is_ascii_digit}
use Rattle.std.specs.List.{prefix_len}
use Rattle.rc_text.specs.declared.token.Sign.{Sign}
use Rattle.rc_text.specs.declared.token.Kind.{Kind}
use Rattle.rc_text.specs.declared.token.Kind.TheVariants.{Name, Number, Sign as SignOf, Assert, LineEnd}
use Rattle.rc_text.specs.declared.token.Token.{Token}
use Rattle.rc_text.specs.declared.fault.LexFault.{LexFault}
use Rattle.rc_text.specs.declared.fault.LexFault.TheVariants.{BadByte, NumberTooLarge}
use Rattle.rc_text.specs.declared.lexeme.Lexeme.{Lexeme}
use Rattle.rc_text.specs.declared.lexeme.Lexeme.TheVariants.{Trivia, LineFeed, Token as TokenOf, Fault}
use Rattle.rc_text.specs.Bytes.{LINE_FEED, SEMICOLON, is_blank, begins_name, continues_name, begins_with_word, decimal_value}
use Rattle.rc_text.specs.Signs.{long_sign, short_sign}
use Rattle.rc_text.specs.Headers.{header_of}

-- A sign of two bytes if there is one, else a sign of one byte.
abbrev pub sign_lexeme : Option Sign → Option Sign → Lexeme
sign_lexeme (Some s) short = TokenOf 2 (SignOf s)
sign_lexeme None (Some s) = TokenOf 1 (SignOf s)
sign_lexeme None None = Fault BadByte

-- A decimal of `len` digits, whose value must be below 2 ^ 32.
abbrev pub number_lexeme : ℕ → ℕ → Lexeme
number_lexeme len value = if nat_lt value (2 ^ 32) then TokenOf len (Number value) else Fault NumberTooLarge

-- `;assert` in letters of any case, with a blank after it.
abbrev pub is_assert : List ℕ → Bool
is_assert text = begins_with_word (codes ";assert") text && is_blank (slice_index text 7)

-- A comment goes on up to the line feed or the end of the text.
abbrev pub comment_len : List ℕ → ℕ
comment_len text = prefix_len (λ b. not (b == LINE_FEED)) text

-- What a text begins with, unless it is empty; `at_line_start` says that only blanks come before it
-- on its line.
abbrev pub lexeme_of : Bool → List ℕ → Lexeme
lexeme_of at_line_start text =
    let b = slice_index text 0 in
    if is_blank b then Trivia 1 else
    if b == LINE_FEED then LineFeed else
    if b == SEMICOLON then (if at_line_start && is_assert text then TokenOf 7 Assert else Trivia (comment_len text)) else
    if begins_name b then TokenOf (prefix_len continues_name text) Name else
    if is_ascii_digit b then number_lexeme (prefix_len is_ascii_digit text) (decimal_value (take (prefix_len is_ascii_digit text) text)) else
    sign_lexeme (long_sign b (slice_index text 1)) (short_sign b)

-- The tokens of a text, and what ends them: the end of the text (None), or a fault.
pub record TokenList : Type 0 where
  pub tokens : List Token
  pub ending : Option LexFault

-- A token from the text, without counters.
abbrev pub token_of : Kind → ℕ → ℕ → ℕ → Token
token_of kind lo len line = record { kind = kind; lo = lo; hi = lo + len; line = line; joined = [] }

abbrev pub with_token : Token → TokenList → TokenList
with_token t l = record { tokens = t ∷ l.tokens; ending = l.ending }

-- The tokens from index `at` on, in line `line`. The first `inside` bytes belong to the lexeme
-- before; `at_line_start` says that only blanks come before the byte on its line.
abbrev pub Onward : Type 0
Onward = (inside : ℕ) → (at_line_start : Bool) → (at line : ℕ) → TokenList

abbrev pub tokens_after : Lexeme → Onward → Bool → ℕ → ℕ → TokenList
tokens_after (Trivia len) next at_line_start at line = next (len - 1) at_line_start (at + 1) line
tokens_after LineFeed next at_line_start at line = with_token (token_of LineEnd at 1 line) (next 0 true (at + 1) (line + 1))
tokens_after (TokenOf len kind) next at_line_start at line = with_token (token_of kind at len line) (next (len - 1) false (at + 1) line)
tokens_after (Fault fault) next at_line_start at line = record { tokens = []; ending = Some fault }

-- The tokens of the rest of a text, byte by byte.
abbrev pub tokens_from : List ℕ → Onward
tokens_from [] inside at_line_start at line = record { tokens = []; ending = None }
tokens_from (b ∷ rest) (suc inside) at_line_start at line = tokens_from rest inside at_line_start (at + 1) line
tokens_from (b ∷ rest) zero at_line_start at line = tokens_after (lexeme_of at_line_start (b ∷ rest)) (tokens_from rest) at_line_start at line

-- The tokens of a text after its header; lines count from 1, those of the header included.
abbrev pub tokens_of : List ℕ → TokenList
tokens_of text = let h = header_of text in tokens_from (drop h.bytes text) 0 true h.bytes (1 + h.lines)

-- What contracts see of a lexer: the tokens still to come, what ends them, and the current line.
pub record LexerView : Type 0 where
  pub tokens : List Token
  pub ending : Option LexFault
  pub line : ℕ

abbrev pub lexer_view : TokenList → ℕ → LexerView
lexer_view l line = record { tokens = l.tokens; ending = l.ending; line = line }

-- The lexer at an index of a text.
abbrev pub lexer_at : List ℕ → Bool → ℕ → ℕ → LexerView
lexer_at text at_line_start at line = lexer_view (tokens_from (drop at text) 0 at_line_start at line) line

-- A new lexer, before the first token.
abbrev pub new_lexer : List ℕ → LexerView
new_lexer text = lexer_view (tokens_of text) (1 + (header_of text).lines)

-- A line end moves on to the next line.
abbrev pub line_after : Kind → ℕ → ℕ
line_after LineEnd line = line + 1
line_after _ line = line

-- The first token is taken and the others stay; if none is left, the result is what ends the
-- tokens, and nothing changes.
abbrev pub TakesToken : LexerView → Result (Option Token) LexFault → LexerView → Type 0
TakesToken old (Ok (Some t)) new = (old.tokens ≡ t ∷ new.tokens) × (new.ending ≡ old.ending) × (t.line ≡ old.line) × (new.line ≡ line_after t.kind t.line)
TakesToken old (Ok None) new = (old.tokens ≡ []) × (old.ending ≡ None) × (new ≡ old)
TakesToken old (Err f) new = (old.tokens ≡ []) × (old.ending ≡ Some f) × (new ≡ old)

-- The spans are in order from `lo` to `end`, none of them is empty, and no two overlap.
abbrev pub InOrder : (lo end : ℕ) → List Token → Type 0
InOrder lo end [] = lo ≤ end
InOrder lo end (t ∷ ts) = (lo ≤ t.lo) × (t.lo < t.hi) × InOrder t.hi end ts
