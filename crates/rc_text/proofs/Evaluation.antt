-- The value of an expression, and its faults, are what reading from the left gives.
use Rattle.std.proofs.Common.{◌≡◌, ℕ, ◌≤◌, Bool, true, false, nat_lt, List, [], Option, Some, None, refl, sym, ◌∙◌, ap, subst, arith, ◌⊎◌, inl, inr}
use Rattle.std.specs.Prelude.{ℤ, pos, negsuc, neg_ℤ, ◌+ℤ◌, ◌-ℤ◌, ◌*ℤ◌, int_div, int_rem, ◌^◌, Result, Ok, Err, if◌then◌else◌}
use Rattle.std.specs.Result.{result_flatten}
use Rattle.rc_text.specs.declared.token.Sign.{Sign}
use Rattle.rc_text.specs.declared.token.Sign.TheVariants.{Plus, Minus, Star, Slash, Percent, Bang, Less, Greater, LessEqual, GreaterEqual, Equal, NotEqual, And, Or}
use Rattle.rc_text.specs.declared.fault.EvalFault.{EvalFault}
use Rattle.rc_text.specs.declared.fault.EvalFault.TheVariants.{Syntax, UnknownName, DivisionByZero, Overflow, TooDeep}
use Rattle.rc_text.specs.Symbols.{Symbol}
use Rattle.rc_text.specs.Grammar.{Tree, Literal, Named, Group, Prefix, Infix, IsGrammatical, level_of, is_prefix}
use Rattle.rc_text.specs.Values.{Outcome, is_zero, within_range, prefix_value, infix_value, prefix_outcome, infix_outcome, name_outcome, tree_value, Meaning, HasOutcome, IsValue, IsEvalFault, DEEPEST}
use Rattle.rc_text.specs.Reading.{before_operand, values, evaluation_of}
use Rattle.rc_text.proofs.ReadTrees.{meaning_in}
use Rattle.rc_text.proofs.OneTree.{reads_whole}
use Rattle.rc_text.proofs.TreesRead.{bottom, whole_before}
use Rattle.rc_text.proofs.Faults.{no_tree, before_too_deep, before_ends, EndsReading}

-- the value of a tree is its meaning in values
pub value_of_is : (names : Meaning) (n : ℕ) (t : Tree) → tree_value names t ≡ meaning_in (values names n) t
value_of_is names n (Literal v) = refl
value_of_is names n (Named name) = refl
value_of_is names n (Group t) = value_of_is names n t
value_of_is names n (Prefix s t) = ap (prefix_outcome s) (value_of_is names n t)
value_of_is names n (Infix l s r) = ap (λ x. infix_outcome x s (tree_value names r)) (value_of_is names n l) ∙ ap (infix_outcome (meaning_in (values names n) l) s) (value_of_is names n r)

-- no fault, or one of values
abbrev pub IsOfValues : Outcome → Type 0
IsOfValues (Ok x) = Unit {0}
IsOfValues (Err Syntax) = ⊥
IsOfValues (Err TooDeep) = ⊥
IsOfValues (Err e) = Unit {0}

-- either branch has no fault of the grammar
of_values_if : (b : Bool) (x y : Outcome) → IsOfValues x → IsOfValues y → IsOfValues (if b then x else y)
of_values_if true x y f g = f
of_values_if false x y f g = g

-- a result is in range or overflows
in_range_of_values : (x : ℤ) → IsOfValues (within_range x)
in_range_of_values (pos n) = of_values_if (nat_lt n (2 ^ 63)) (Ok (pos n)) (Err Overflow) tt tt
in_range_of_values (negsuc n) = of_values_if (nat_lt n (2 ^ 63)) (Ok (negsuc n)) (Err Overflow) tt tt

-- a sign before a value has no fault of the grammar
prefix_of_values : (s : Sign) (x : ℤ) → is_prefix s ≡ true → IsOfValues (prefix_value s x)
prefix_of_values Plus x h = tt
prefix_of_values Minus x h = in_range_of_values (neg_ℤ x)
prefix_of_values Bang x h = tt
prefix_of_values _ x h = cc

-- an operator between values has no fault of the grammar
infix_of_values : (s : Sign) (x y : ℤ) → 1 ≤ level_of s → IsOfValues (infix_value s x y)
infix_of_values Star x y h = in_range_of_values (x *ℤ y)
infix_of_values Slash x y h = of_values_if (is_zero y) (Err DivisionByZero) (within_range (int_div x y)) tt (in_range_of_values (int_div x y))
infix_of_values Percent x y h = of_values_if (is_zero y) (Err DivisionByZero) (within_range (int_rem x y)) tt (in_range_of_values (int_rem x y))
infix_of_values Plus x y h = in_range_of_values (x +ℤ y)
infix_of_values Minus x y h = in_range_of_values (x -ℤ y)
infix_of_values Less x y h = tt
infix_of_values Greater x y h = tt
infix_of_values LessEqual x y h = tt
infix_of_values GreaterEqual x y h = tt
infix_of_values Equal x y h = tt
infix_of_values NotEqual x y h = tt
infix_of_values And x y h = tt
infix_of_values Or x y h = tt
infix_of_values _ x y h = absurd (omega arith)

-- a name has a value or is unknown
name_of_values : (o : Option ℤ) → IsOfValues (name_outcome o)
name_of_values (Some x) = tt
name_of_values None = tt

-- the same before what an operand gives
prefix_kept : (s : Sign) (x : Outcome) → is_prefix s ≡ true → IsOfValues x → IsOfValues (prefix_outcome s x)
prefix_kept s (Ok x) h f = prefix_of_values s x h
prefix_kept s (Err e) h f = f

-- the same between what two operands give
infix_kept : (x : Outcome) (s : Sign) (y : Outcome) → 1 ≤ level_of s → IsOfValues x → IsOfValues y → IsOfValues (infix_outcome x s y)
infix_kept (Ok x) s (Ok y) h f g = infix_of_values s x y h
infix_kept (Ok x) s (Err e) h f g = g
infix_kept (Err e) s y h f g = f

-- a tree of the grammar has no fault of the grammar
of_values : (names : Meaning) (t : Tree) → IsGrammatical t → IsOfValues (tree_value names t)
of_values names (Literal n) g = tt
of_values names (Named name) g = name_of_values (names name)
of_values names (Group t) g = of_values names t g
of_values names (Prefix s t) g = prefix_kept s (tree_value names t) g.0 (of_values names t g.2)
of_values names (Infix l s r) g = infix_kept (tree_value names l) s (tree_value names r) g.0 (of_values names l g.3) (of_values names r g.4)

-- an outcome of the tree is read
pub evaluation_of_outcome : (names : Meaning) (symbols : List Symbol) (x : Outcome) → HasOutcome names symbols x → evaluation_of names symbols ≡ x
evaluation_of_outcome names symbols x h =
    ap (evaluation_of names) (sym h.spells) ∙ (ap result_flatten (reads_whole (values names DEEPEST) h.tree h.grammatical h.shallow) ∙ (sym (value_of_is names DEEPEST h.tree) ∙ h.value))

-- what is read to the end is the outcome of the tree
pub outcome_of_reading : (names : Meaning) (symbols : List Symbol) (x : Outcome) → before_operand (values names DEEPEST) symbols [] ≡ Ok x → HasOutcome names symbols x
outcome_of_reading names symbols x h =
    let w = whole_before (values names DEEPEST) symbols x bottom (omega arith) h in
    record { tree = w.tree; grammatical = w.means.grammatical; spells = w.spells; shallow = omega (arith, w.means.room); value = value_of_is names DEEPEST w.tree ∙ w.means.value }

-- a fault of the tree is a fault of the expression
fault_of_outcome : (names : Meaning) (symbols : List Symbol) (e : EvalFault) → HasOutcome names symbols (Err e) → IsOfValues (Err e) → IsEvalFault names symbols e
fault_of_outcome names symbols Syntax h v = absurd v
fault_of_outcome names symbols TooDeep h v = absurd v
fault_of_outcome names symbols UnknownName h v = h
fault_of_outcome names symbols DivisionByZero h v = h
fault_of_outcome names symbols Overflow h v = h

-- the fault of the tree is a fault of the expression
pub fault_of_value : (names : Meaning) (symbols : List Symbol) (e : EvalFault) → HasOutcome names symbols (Err e) → IsEvalFault names symbols e
fault_of_value names symbols e h = fault_of_outcome names symbols e h (subst IsOfValues h.value (of_values names h.tree h.grammatical))

-- by the two faults that end the reading
ending_fault : (names : Meaning) (symbols : List Symbol) (e : EvalFault) → EndsReading e → before_operand (values names DEEPEST) symbols [] ≡ Err e → IsEvalFault names symbols e
ending_fault names symbols Syntax is h = no_tree (values names DEEPEST) symbols h
ending_fault names symbols TooDeep is h = before_too_deep (values names DEEPEST) symbols [] refl h
ending_fault names symbols UnknownName is h = absurd is
ending_fault names symbols DivisionByZero is h = absurd is
ending_fault names symbols Overflow is h = absurd is

-- a fault that ends the reading is a fault of the expression
pub fault_of_reading : (names : Meaning) (symbols : List Symbol) (e : EvalFault) → before_operand (values names DEEPEST) symbols [] ≡ Err e → IsEvalFault names symbols e
fault_of_reading names symbols e h = ending_fault names symbols e (before_ends (values names DEEPEST) symbols [] e h) h

-- a value is read to the end
flat_value : (r : Result Outcome EvalFault) (x : ℤ) → result_flatten r ≡ Ok x → r ≡ Ok (Ok x)
flat_value (Ok (Ok y)) x h = cc
flat_value (Ok (Err e)) x h = cc
flat_value (Err e) x h = cc

-- a fault is the fault of the tree, or it ended the reading
flat_fault : (r : Result Outcome EvalFault) (e : EvalFault) → result_flatten r ≡ Err e → (r ≡ Ok (Err e)) ⊎ (r ≡ Err e)
flat_fault (Ok (Ok y)) e h = cc
flat_fault (Ok (Err f)) e h = inl (cc)
flat_fault (Err f) e h = inr (cc)

-- a value that is read is the value of the expression
pub value_of_evaluation : (names : Meaning) (symbols : List Symbol) (x : ℤ) → evaluation_of names symbols ≡ Ok x → IsValue names symbols x
value_of_evaluation names symbols x h = outcome_of_reading names symbols (Ok x) (flat_value (before_operand (values names DEEPEST) symbols []) x h)

-- a fault that is read is a fault of the expression
pub fault_of_evaluation : (names : Meaning) (symbols : List Symbol) (e : EvalFault) → evaluation_of names symbols ≡ Err e → IsEvalFault names symbols e
fault_of_evaluation names symbols e h =
    elim (flat_fault (before_operand (values names DEEPEST) symbols []) e h) [
      | inl f ↦ fault_of_value names symbols e (outcome_of_reading names symbols (Err e) f)
      | inr f ↦ fault_of_reading names symbols e f
    ]
