-- A fault of the text itself: a byte or a decimal that is not a token.
use Rattle.std.specs.Prelude.{◌≡◌, ◌+◌, ℕ, List, [], ◌∷◌, Option, Some, option_map}
use Rattle.rc_text.specs.declared.token.Token.{Token}
use Rattle.rc_text.specs.declared.fault.LexFault.{LexFault}
use Rattle.rc_text.specs.Headers.{header_of}
use Rattle.rc_text.specs.Tokens.{tokens_of, line_after, LexerView}
use Rattle.rc_expand.specs.declared.fault.ExpandFault.{ExpandFault}
use Rattle.rc_expand.specs.declared.fault.ExpandKind.TheVariants.{Text}
use Rattle.rc_expand.specs.Results.{at_line}

-- The line after tokens, the first of which is at `line`.
abbrev pub ending_line : ℕ → List Token → ℕ
ending_line line [] = line
ending_line line (t ∷ ts) = ending_line (line_after t.kind t.line) ts

-- What ends the tokens of a text, at the line where they end.
abbrev pub text_fault : List ℕ → Option ExpandFault
text_fault source = option_map (λ fault. at_line (ending_line (1 + (header_of source).lines) (tokens_of source).tokens) (Text fault)) (tokens_of source).ending

-- A lexer in this state, with no token left, ends with this fault.
abbrev pub IsEnding : LexerView → ExpandFault → Type 0
IsEnding lexer f = (fault : LexFault) × (lexer.ending ≡ Some fault) × (f ≡ at_line lexer.line (Text fault))
