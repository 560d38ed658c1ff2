-- The text's own fault, token by token.
use Rattle.std.proofs.Common.{◌≡◌, ◌+◌, ℕ, List, ◌∷◌, None, sym, ◌∙◌, ap}
use Rattle.std.specs.Prelude.{option_map}
use Rattle.rc_text.specs.declared.token.Token.{Token}
use Rattle.rc_text.specs.Headers.{header_of}
use Rattle.rc_text.specs.Tokens.{tokens_of, new_lexer, line_after, LexerView}
use Rattle.rc_expand.specs.declared.fault.ExpandKind.TheVariants.{Text}
use Rattle.rc_expand.specs.Results.{at_line}
use Rattle.rc_expand.specs.Read.Faults.{ending_line, text_fault}

-- what lies ahead ends as the text does, and at the same line
abbrev pub Follows : List ℕ → LexerView → Type 0
Follows source a =
    (a.ending ≡ (tokens_of source).ending)
    × (ending_line a.line a.tokens ≡ ending_line (1 + (header_of source).lines) (tokens_of source).tokens)

module _ (source : List ℕ) where
  -- at the beginning
  pub at_beginning : (a : LexerView) → a ≡ new_lexer source → Follows source a
  at_beginning a e = (ap (λ x. x.ending) e, ap (λ x. ending_line x.line x.tokens) e)

  -- after a token
  pub after_token : (a b : LexerView) (t : Token) → a.tokens ≡ t ∷ b.tokens → b.ending ≡ a.ending → b.line ≡ line_after t.kind t.line
      → Follows source a → Follows source b
  after_token a b t tokens ending line f =
      (ending ∙ f.0, ap (λ n. ending_line n b.tokens) line ∙ (sym (ap (ending_line a.line) tokens) ∙ f.1))

  -- a text whose tokens end with it has no fault
  pub no_fault : (tokens_of source).ending ≡ None → text_fault source ≡ None
  no_fault e = ap (option_map (λ fault. at_line (ending_line (1 + (header_of source).lines) (tokens_of source).tokens) (Text fault))) e
