-- The spans of the tokens of a text.
use Rattle.std.proofs.Common.{◌≡◌, ℕ, suc, zero, ◌+◌, ◌-◌, ◌≤◌, Bool, true, false, List, [], ◌∷◌, drop, length, refl, arith, subst, length-drop}
use Rattle.std.specs.Prelude.{All}
use Rattle.std.proofs.lemmas.List.Elements.{All-cons}
use Rattle.rc_text.specs.declared.token.Token.{Token}
use Rattle.rc_text.specs.declared.lexeme.Lexeme.{Lexeme}
use Rattle.rc_text.specs.declared.lexeme.Lexeme.TheVariants.{Trivia, LineFeed, Token as TokenOf, Fault}
use Rattle.rc_text.specs.Tokens.{lexeme_of, tokens_after, tokens_from, InOrder, Onward}
use Rattle.rc_text.specs.Symbols.{LiesIn}
use Rattle.rc_text.proofs.LexemeSteps.{FitsIn, lexeme_fits}

-- in order from a place, so from an earlier one
from_lower : (l m end : ℕ) (ts : List Token) → l ≤ m → InOrder m end ts → InOrder l end ts
from_lower l m end [] le h = omega arith
from_lower l m end (t ∷ ts) le h = (omega (arith, h.0), h.1, h.2)

-- the same places
moved : (l m e f : ℕ) (ts : List Token) → l ≡ m → e ≡ f → InOrder l e ts → InOrder m f ts
moved l m e f ts p q h = subst (λ x. InOrder x f ts) p (subst (λ y. InOrder l y ts) q h)

-- after the first lexeme
lexeme_in_order : (bs : List ℕ) (p : Lexeme) (next : Onward) (at_line_start : Bool) (at line n : ℕ) → suc n ≡ length bs → FitsIn bs p
    → ((k : ℕ) (at_line_start : Bool) (line : ℕ) → k ≤ n → InOrder (at + 1 + k) (at + 1 + n) (next k at_line_start (at + 1) line).tokens)
    → InOrder at (at + suc n) (tokens_after p next at_line_start at line).tokens
lexeme_in_order bs (Trivia len) next at_line_start at line n e fits h =
    from_lower at (at + 1 + (len - 1)) (at + suc n) _ (omega arith) (moved _ _ _ _ _ refl (omega arith) (h (len - 1) at_line_start line (omega (arith, fits.0, fits.1))))
lexeme_in_order bs LineFeed next at_line_start at line n e fits h = (omega arith, omega arith, moved _ _ _ _ _ (omega arith) (omega arith) (h 0 true (line + 1) (omega arith)))
lexeme_in_order bs (TokenOf len kind) next at_line_start at line n e fits h =
    (omega arith, omega (arith, fits.0), moved _ _ _ _ _ (omega (arith, fits.0)) (omega arith) (h (len - 1) false line (omega (arith, fits.0, fits.1))))
lexeme_in_order bs (Fault f) next at_line_start at line n e fits h = omega arith

-- the tokens of what is left
from_in_order : (bs : List ℕ) (k : ℕ) (at_line_start : Bool) (at line : ℕ) → k ≤ length bs → InOrder (at + k) (at + length bs) (tokens_from bs k at_line_start at line).tokens
from_in_order [] k at_line_start at line h = omega arith
from_in_order (b ∷ bs) (suc k) at_line_start at line h = moved _ _ _ _ _ (omega arith) (omega arith) (from_in_order bs k at_line_start (at + 1) line (omega arith))
from_in_order (b ∷ bs) zero at_line_start at line h =
    moved at _ _ _ _ (omega arith) refl
    (lexeme_in_order (b ∷ bs) (lexeme_of at_line_start (b ∷ bs)) (tokens_from bs) at_line_start at line (length bs) refl (lexeme_fits (b ∷ bs) at_line_start (omega arith)) (λ k f l le. from_in_order bs k f (at + 1) l le))

-- the tokens from an index on
pub in_order_at : (source : List ℕ) (at_line_start : Bool) (at line : ℕ) → at ≤ length source → InOrder at (length source) (tokens_from (drop at source) 0 at_line_start at line).tokens
in_order_at source at_line_start at line h = moved _ _ _ _ _ (omega arith) (omega (arith, length-drop at source)) (from_in_order (drop at source) 0 at_line_start at line (omega arith))

-- spans in order lie in the source
pub all_inside : (source : List ℕ) (l : ℕ) (ts : List Token) → InOrder l (length source) ts → All (LiesIn source) ts
all_inside source l [] h = λ k d lt. absurd (omega arith)
all_inside source l (t ∷ ts) h = All-cons (LiesIn source) t ts (record { order = omega (arith, h.1); inside = ends t.hi ts h.2 }) (all_inside source t.hi ts h.2) where
  ends : (m : ℕ) (ts : List Token) → InOrder m (length source) ts → m ≤ length source
  ends m [] h = h
  ends m (u ∷ us) h = omega (arith, h.0, h.1, ends u.hi us h.2)
