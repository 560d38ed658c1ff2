-- The value of an expression: a 64-bit number with a sign (the operators of pMARS).
use Rattle.std.specs.Prelude.{◌≡◌, ℕ, zero, suc, ◌-◌, ◌≤◌, ◌^◌, Bool, true, false, ◌&&◌, ◌||◌, not, ℤ, pos, negsuc, ◌+ℤ◌, ◌-ℤ◌, ◌*ℤ◌, neg_ℤ, int_lt, int_le, int_div, int_rem, nat_lt, nat_le, List, [], ◌∷◌, Option, Some, None, Result, Ok, Err, if◌then◌else◌}
use Rattle.rc_text.specs.declared.token.Sign.{Sign}
use Rattle.rc_text.specs.declared.token.Sign.TheVariants.{Open, Close, Plus, Minus, Star, Slash, Percent, Bang, Less, Greater, LessEqual, GreaterEqual, Equal, NotEqual, And, Or}
use Rattle.rc_text.specs.declared.fault.EvalFault.{EvalFault}
use Rattle.rc_text.specs.declared.fault.EvalFault.TheVariants.{Syntax, UnknownName, DivisionByZero, Overflow, TooDeep}
use Rattle.rc_text.specs.Symbols.{Symbol, Mark}
use Rattle.rc_text.specs.Grammar.{Tree, Literal, Named, Group, Prefix, Infix, spelling_of, IsGrammatical, depth_of}

-- A value, or the fault in its place.
abbrev pub Outcome : Type 0
Outcome = Result ℤ EvalFault

-- A result has to fit into 64 bits with a sign.
abbrev pub within_range : ℤ → Outcome
within_range (pos n) = if nat_lt n (2 ^ 63) then Ok (pos n) else Err Overflow
within_range (negsuc n) = if nat_lt n (2 ^ 63) then Ok (negsuc n) else Err Overflow

abbrev pub is_zero : ℤ → Bool
is_zero (pos zero) = true
is_zero _ = false

-- Truth is 1 or 0.
abbrev pub truth_value : Bool → ℤ
truth_value true = pos 1
truth_value false = pos 0

abbrev pub is_equal : ℤ → ℤ → Bool
is_equal x y = is_zero (x -ℤ y)

-- A prefix operator applied to a value.
abbrev pub prefix_value : Sign → ℤ → Outcome
prefix_value Plus x = Ok x
prefix_value Minus x = within_range (neg_ℤ x)
prefix_value Bang x = Ok (truth_value (is_zero x))
prefix_value _ x = Err Syntax

-- An infix operator applied to two values; division goes toward zero, a remainder has the sign of
-- the dividend, and any value but 0 is true.
abbrev pub infix_value : Sign → ℤ → ℤ → Outcome
infix_value Star x y = within_range (x *ℤ y)
infix_value Slash x y = if is_zero y then Err DivisionByZero else within_range (int_div x y)
infix_value Percent x y = if is_zero y then Err DivisionByZero else within_range (int_rem x y)
infix_value Plus x y = within_range (x +ℤ y)
infix_value Minus x y = within_range (x -ℤ y)
infix_value Less x y = Ok (truth_value (int_lt x y))
infix_value Greater x y = Ok (truth_value (int_lt y x))
infix_value LessEqual x y = Ok (truth_value (int_le x y))
infix_value GreaterEqual x y = Ok (truth_value (int_le y x))
infix_value Equal x y = Ok (truth_value (is_equal x y))
infix_value NotEqual x y = Ok (truth_value (not (is_equal x y)))
infix_value And x y = Ok (truth_value (not (is_zero x) && not (is_zero y)))
infix_value Or x y = Ok (truth_value (not (is_zero x && is_zero y)))
infix_value _ x y = Err Syntax

-- The operator applied to the value, or the operand's fault.
abbrev pub prefix_outcome : Sign → Outcome → Outcome
prefix_outcome s (Ok x) = prefix_value s x
prefix_outcome s (Err e) = Err e

-- The first fault from the left, or the operator applied to the values; both sides are evaluated,
-- even of `&&` and `||`.
abbrev pub infix_outcome : Outcome → Sign → Outcome → Outcome
infix_outcome (Ok x) s (Ok y) = infix_value s x y
infix_outcome (Ok x) s (Err e) = Err e
infix_outcome (Err e) s r = Err e

-- The values of names.
abbrev pub Meaning : Type 0
Meaning = List ℕ → Option ℤ

abbrev pub name_outcome : Option ℤ → Outcome
name_outcome (Some x) = Ok x
name_outcome None = Err UnknownName

-- The value of a tree, or its first fault from the left.
abbrev pub tree_value : Meaning → Tree → Outcome
tree_value names (Literal n) = Ok (pos n)
tree_value names (Named name) = name_outcome (names name)
tree_value names (Group t) = tree_value names t
tree_value names (Prefix s t) = prefix_outcome s (tree_value names t)
tree_value names (Infix a s b) = infix_outcome (tree_value names a) s (tree_value names b)

-- How deep parentheses may be nested.
abbrev pub DEEPEST : ℕ
DEEPEST = 64

-- A tree of the grammar that is not too deep spells the symbols and has this outcome.
pub record HasOutcome (names : Meaning) (symbols : List Symbol) (outcome : Outcome) : Type 0 where
  pub tree : Tree
  pub grammatical : IsGrammatical tree
  pub spells : spelling_of tree ≡ symbols
  pub shallow : depth_of tree ≤ DEEPEST
  pub value : tree_value names tree ≡ outcome

-- x is the value of the expression.
abbrev pub IsValue : Meaning → List Symbol → ℤ → Type 0
IsValue names symbols x = HasOutcome names symbols (Ok x)

-- No tree of the grammar, of any depth, spells these symbols.
abbrev pub HasNoTree : List Symbol → Type 0
HasNoTree symbols = (t : Tree) → IsGrammatical t → spelling_of t ≡ symbols → ⊥

-- A parenthesis opens while DEEPEST are open; `n` are open before the first symbol.
abbrev pub opens_too_many : ℕ → List Symbol → Bool
opens_too_many n [] = false
opens_too_many n (Mark Open ∷ symbols) = nat_le DEEPEST n || opens_too_many (suc n) symbols
opens_too_many n (Mark Close ∷ symbols) = opens_too_many (n - 1) symbols
opens_too_many n (_ ∷ symbols) = opens_too_many n symbols

-- The meaning of each fault: no tree spells the symbols, a parenthesis opens too deep, or the fault
-- is the outcome of the tree.
abbrev pub IsEvalFault : Meaning → List Symbol → EvalFault → Type 0
IsEvalFault names symbols Syntax = HasNoTree symbols
IsEvalFault names symbols TooDeep = opens_too_many 0 symbols ≡ true
IsEvalFault names symbols e = HasOutcome names symbols (Err e)
