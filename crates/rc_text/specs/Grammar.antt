-- The grammar of expressions, by trees, with the operators of pMARS.
use Rattle.std.specs.Prelude.{ℕ, suc, ◌≤◌, ◌<◌, max, Bool, true, false, List, [], ◌∷◌, ◌++◌, IsTrue}
use Rattle.rc_text.specs.declared.token.Sign.{Sign}
use Rattle.rc_text.specs.declared.token.Sign.TheVariants.{Open, Close, Plus, Minus, Star, Slash, Percent, Bang, Less, Greater, LessEqual, GreaterEqual, Equal, NotEqual, And, Or}
use Rattle.rc_text.specs.Symbols.{Symbol, Decimal, Identifier, Mark}

-- An expression: a decimal, a name, an expression in parentheses, a prefix operator and its
-- operand, or an infix operator between its two operands.
pub data Tree : Type 0 where
  Literal : (n : ℕ) → Tree
  Named : (name : List ℕ) → Tree
  Group : (inner : Tree) → Tree
  Prefix : (s : Sign) → (operand : Tree) → Tree
  Infix : (left : Tree) → (s : Sign) → (right : Tree) → Tree

-- The symbols of a tree, from the left.
abbrev pub spelling_of : Tree → List Symbol
spelling_of (Literal n) = Decimal n ∷ []
spelling_of (Named name) = Identifier name ∷ []
spelling_of (Group t) = Mark Open ∷ (spelling_of t ++ Mark Close ∷ [])
spelling_of (Prefix s t) = Mark s ∷ spelling_of t
spelling_of (Infix a s b) = spelling_of a ++ (Mark s ∷ spelling_of b)

-- The level of `||`, the loosest operator.
abbrev pub LOOSEST_LEVEL : ℕ
LOOSEST_LEVEL = 1

-- The level of prefix operators, which are tighter than any infix operator.
abbrev pub PREFIX_LEVEL : ℕ
PREFIX_LEVEL = 7

-- The level of a decimal, a name or a group in parentheses: no operator splits it.
abbrev pub OPERAND_LEVEL : ℕ
OPERAND_LEVEL = 8

-- The level of an infix operator, from 1 (loosest) to 6 (tightest), or 0 for any other sign.
abbrev pub level_of : Sign → ℕ
level_of Or = 1
level_of And = 2
level_of Equal = 3
level_of NotEqual = 3
level_of Less = 4
level_of Greater = 4
level_of LessEqual = 4
level_of GreaterEqual = 4
level_of Plus = 5
level_of Minus = 5
level_of Star = 6
level_of Slash = 6
level_of Percent = 6
level_of _ = 0

-- The prefix operators.
abbrev pub is_prefix : Sign → Bool
is_prefix Plus = true
is_prefix Minus = true
is_prefix Bang = true
is_prefix _ = false

-- How tightly a tree binds: the level of what is at its top.
abbrev pub tightness : Tree → ℕ
tightness (Literal n) = OPERAND_LEVEL
tightness (Named name) = OPERAND_LEVEL
tightness (Group t) = OPERAND_LEVEL
tightness (Prefix s t) = PREFIX_LEVEL
tightness (Infix a s b) = level_of s

-- Each operand binds tightly enough: at least as tightly as its operator on the left, and more
-- tightly on the right, so that each level groups to the left.
abbrev pub IsGrammatical : Tree → Type 0
IsGrammatical (Literal n) = Unit {0}
IsGrammatical (Named name) = Unit {0}
IsGrammatical (Group t) = IsGrammatical t
IsGrammatical (Prefix s t) = IsTrue (is_prefix s) × (PREFIX_LEVEL ≤ tightness t) × IsGrammatical t
IsGrammatical (Infix a s b) = (0 < level_of s) × (level_of s ≤ tightness a) × (level_of s < tightness b) × IsGrammatical a × IsGrammatical b

-- How deep the parentheses of a tree are nested.
abbrev pub depth_of : Tree → ℕ
depth_of (Literal n) = 0
depth_of (Named name) = 0
depth_of (Group t) = suc (depth_of t)
depth_of (Prefix s t) = depth_of t
depth_of (Infix a s b) = max (depth_of a) (depth_of b)
