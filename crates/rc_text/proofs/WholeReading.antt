-- The reading of a whole expression.
use Rattle.std.proofs.Common.{◌≡◌, ℕ, ◌<◌, ◌≤◌, get_or, sym, ap, true, false, nat_lt, List, [], ◌∷◌, length, refl, ◌∙◌, arith, cond}
use Rattle.std.specs.Prelude.{Ok, Err}
use Rattle.std.proofs.lemmas.Bool.Decides.{nat_tests}
use Rattle.rc_text.specs.declared.token.Token.{Token}
use Rattle.rc_text.specs.declared.fault.EvalFault.{EvalFault}
use Rattle.rc_text.specs.declared.fault.EvalFault.TheVariants.{Syntax}
use Rattle.rc_text.specs.Symbols.{Symbol, Decimal, Identifier, Mark, Foreign, symbol_of, symbols_of}
use Rattle.rc_text.specs.Grammar.{LOOSEST_LEVEL, level_of}
use Rattle.rc_text.specs.Values.{Meaning, Outcome, DEEPEST}
use Rattle.rc_text.specs.Reading.{Left, is_close, before_operand, after_operand, Stops, ReadsOperand, RefusesOperand, values}

-- something is over that continues no expression
over : (names : Meaning) (rest : List Symbol) (x : Outcome) → Stops LOOSEST_LEVEL rest → 0 < length rest → after_operand (values names DEEPEST) rest x [] ≡ Err Syntax
unfolding before_operand after_operand
over names [] x stops h = absurd (omega arith)
over names (Mark s ∷ ws) x stops h = let e : nat_lt 0 (level_of s) ≡ false = grind (arith, nat_tests) in
    elim (is_close s) as (λ c. (cond c (Err Syntax) (cond (nat_lt 0 (level_of s)) (before_operand (values names DEEPEST) ws (Left x s ∷ [])) (Err Syntax))) ≡ Err Syntax) [ true ↦ refl | false ↦ rw e refl ]
over names (Decimal n ∷ ws) x stops h = refl
over names (Identifier n ∷ ws) x stops h = refl
over names (Foreign ∷ ws) x stops h = refl

module _ (names : Meaning) (symbols : List Symbol) where
  -- an expression that is read to its end
  pub whole_read : (source : List ℕ) (x : Outcome) (rest : List Token) → ReadsOperand names LOOSEST_LEVEL 0 symbols x (symbols_of source rest) → length rest ≡ 0 → before_operand (values names DEEPEST) symbols [] ≡ Ok x
  unfolding before_operand after_operand
  whole_read source x [] read none = read [] tt refl
  whole_read source x (t ∷ rest) read none = absurd (omega arith)

  -- one with something over
  pub whole_over : (source : List ℕ) (x : Outcome) (rest : List Token) → ReadsOperand names LOOSEST_LEVEL 0 symbols x (symbols_of source rest) → Stops LOOSEST_LEVEL (symbols_of source rest) → 0 < length rest → before_operand (values names DEEPEST) symbols [] ≡ Err Syntax
  whole_over source x [] read stops some = absurd (omega arith)
  whole_over source x (t ∷ rest) read stops some = read [] tt refl ∙ over names (symbols_of source (t ∷ rest)) x stops (omega arith)

  -- one that is refused
  pub whole_refused : (e : EvalFault) → RefusesOperand names LOOSEST_LEVEL 0 symbols e → before_operand (values names DEEPEST) symbols [] ≡ Err e
  whole_refused e h = h [] tt refl

-- one token is one symbol
pub one_symbol : (source : List ℕ) (ts : List Token) (t : Token) → 1 ≤ length ts → length ts < 2 → t ≡ get_or ts 0 t → symbols_of source ts ≡ symbol_of source t ∷ []
one_symbol source [] t more less is = absurd (omega arith)
one_symbol source (u ∷ []) t more less is = ap (λ w. symbol_of source w ∷ []) (sym is)
one_symbol source (u ∷ v ∷ ts) t more less is = absurd (omega arith)
