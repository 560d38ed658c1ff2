-- The value of an expression, or its first fault, as `eval` returns it: by one reading from the
-- left. Laws say that this is what Grammar and Values define by trees. The reading is over any
-- algebra, so that proofs can read trees by it, too.
use Rattle.std.specs.Prelude.{◌≡◌, ℕ, suc, ◌≤◌, ◌<◌, Bool, true, false, nat_lt, nat_le, List, [], ◌∷◌, Result, Ok, Err, if◌then◌else◌, pos, MatchResult}
use Rattle.std.specs.Borrow.{Bor}
use Rattle.std.specs.Result.{result_flatten}
use Rattle.rc_text.specs.declared.token.Sign.{Sign}
use Rattle.rc_text.specs.declared.token.Sign.TheVariants.{Open, Close}
use Rattle.rc_text.specs.declared.token.Kind.{Kind}
use Rattle.rc_text.specs.declared.token.Kind.TheVariants.{Sign as SignOf}
use Rattle.rc_text.specs.declared.token.Token.{Token}
use Rattle.rc_text.specs.declared.fault.EvalFault.{EvalFault}
use Rattle.rc_text.specs.declared.fault.EvalFault.TheVariants.{Syntax, TooDeep}
use Rattle.rc_text.specs.Symbols.{Symbol, Decimal, Identifier, Mark, Foreign, symbols_of}
use Rattle.rc_text.specs.Grammar.{LOOSEST_LEVEL, PREFIX_LEVEL, level_of, is_prefix}
use Rattle.rc_text.specs.Values.{Meaning, Outcome, name_outcome, prefix_outcome, infix_outcome, DEEPEST}

-- The meaning of the parts of an expression, and the most parentheses that may be open.
pub record Algebra (A : Type 0) : Type 0 where
  pub limit : ℕ
  pub literal : ℕ → A
  pub named : List ℕ → A
  pub group : A → A
  pub prefix : Sign → A → A
  pub infix' : A → Sign → A → A

-- What waits for an operand: an open parenthesis, a prefix operator, or a left side and its
-- operator.
pub data Frame (A : Type 0) : Type 0 where
  Paren : Frame A
  Before : (s : Sign) → Frame A
  Left : (left : A) → (s : Sign) → Frame A

-- The number of open parentheses.
abbrev pub open_count : {A : Type 0} → List (Frame A) → ℕ
open_count [] = 0
open_count (Paren ∷ frames) = suc (open_count frames)
open_count (Before s ∷ frames) = open_count frames
open_count (Left x s ∷ frames) = open_count frames

-- The result of reading, or the fault that ends it: Syntax or TooDeep.
abbrev pub Read : Type 0 → Type 0
Read A = Result A EvalFault

-- What to do with an operand and the frames that wait for it.
abbrev pub Continuation : Type 0 → Type 0
Continuation A = A → List (Frame A) → Read A

-- The operand takes in every frame up to the first that is looser than `level`.
abbrev pub reduction : {A : Type 0} → Algebra A → ℕ → Continuation A → Continuation A
reduction m level next x [] = next x []
reduction m level next x (Paren ∷ frames) = next x (Paren ∷ frames)
reduction m level next x (Before s ∷ frames) = reduction m level next (m.prefix s x) frames
reduction m level next x (Left l s ∷ frames) = if nat_le level (level_of s) then reduction m level next (m.infix' l s x) frames else next x (Left l s ∷ frames)

-- At the end no frame may be left.
abbrev pub at_bottom : {A : Type 0} → Continuation A
at_bottom x [] = Ok x
at_bottom x (f ∷ frames) = Err Syntax

-- A closing parenthesis needs an open one.
abbrev pub at_paren : {A : Type 0} → Algebra A → Continuation A → Continuation A
at_paren m next x [] = Err Syntax
at_paren m next x (Paren ∷ frames) = next (m.group x) frames
at_paren m next x (Before s ∷ frames) = Err Syntax
at_paren m next x (Left l s ∷ frames) = Err Syntax

abbrev pub is_close : Sign → Bool
is_close Close = true
is_close _ = false

abbrev pub is_open : Sign → Bool
is_open Open = true
is_open _ = false

-- Reading the symbols, in two states: before an operand and after one.
unfoldable mutual
  pub before_operand : {A : Type 0} → Algebra A → List Symbol → List (Frame A) → Read A
  before_operand m [] frames = Err Syntax
  before_operand m (Decimal n ∷ rest) frames = after_operand m rest (m.literal n) frames
  before_operand m (Identifier name ∷ rest) frames = after_operand m rest (m.named name) frames
  before_operand m (Mark s ∷ rest) frames =
      if is_open s then (if nat_lt (open_count frames) m.limit then before_operand m rest (Paren ∷ frames) else Err TooDeep) else
      if is_prefix s then before_operand m rest (Before s ∷ frames) else Err Syntax
  before_operand m (Foreign ∷ rest) frames = Err Syntax

  pub after_operand : {A : Type 0} → Algebra A → List Symbol → A → List (Frame A) → Read A
  after_operand m [] x frames = reduction m LOOSEST_LEVEL at_bottom x frames
  after_operand m (Mark s ∷ rest) x frames =
      if is_close s then reduction m LOOSEST_LEVEL (at_paren m (after_operand m rest)) x frames else
      if nat_lt 0 (level_of s) then reduction m (level_of s) (λ y others. before_operand m rest (Left y s ∷ others)) x frames else Err Syntax
  after_operand m (_ ∷ rest) x frames = Err Syntax

-- The parts mean their values.
abbrev pub values : Meaning → ℕ → Algebra Outcome
values names limit = record {
  limit = limit;
  literal = λ n. Ok (pos n);
  named = λ name. name_outcome (names name);
  group = λ x. x;
  prefix = prefix_outcome;
  infix' = infix_outcome;
}

-- The value of an expression, or its first fault; a fault of the grammar comes before one of a
-- value.
abbrev pub evaluation_of : Meaning → List Symbol → Outcome
evaluation_of names symbols = result_flatten (before_operand (values names DEEPEST) symbols [])

-- An operand that binds as tightly as level `n` may come on these frames.
abbrev pub FitsFrames : {A : Type 0} → ℕ → List (Frame A) → Type 0
FitsFrames n [] = Unit {0}
FitsFrames n (Paren ∷ frames) = Unit {0}
FitsFrames n (Before s ∷ frames) = PREFIX_LEVEL ≤ n
FitsFrames n (Left x s ∷ frames) = level_of s < n

-- The next symbol is not an operator of level `n` or tighter.
abbrev pub Stops : ℕ → List Symbol → Type 0
Stops n [] = Unit {0}
Stops n (Mark s ∷ rest) = level_of s < n
Stops n (_ ∷ rest) = Unit {0}

-- An operand is read from `symbols` up to `rest` and means `x`, on any frames that fit `level` and
-- have `depth` parentheses open.
abbrev pub ReadsOperand : Meaning → (level depth : ℕ) → List Symbol → Outcome → List Symbol → Type 0
ReadsOperand names level depth symbols x rest = (frames : List (Frame Outcome)) → FitsFrames level frames → open_count frames ≡ depth
    → before_operand (values names DEEPEST) symbols frames ≡ after_operand (values names DEEPEST) rest x frames

-- On all such frames, reading an operand ends with the fault `e`.
abbrev pub RefusesOperand : Meaning → (level depth : ℕ) → List Symbol → EvalFault → Type 0
RefusesOperand names level depth symbols e = (frames : List (Frame Outcome)) → FitsFrames level frames → open_count frames ≡ depth
    → before_operand (values names DEEPEST) symbols frames ≡ Err e

-- A call reads an operand from the symbols. It returns the operand's outcome and the tokens that
-- are left, or the fault that ends the reading.
abbrev pub Reads : Meaning → (level depth : ℕ) → (source : List ℕ) → List Symbol → Result (Outcome × Bor (List Token)) EvalFault → Type 0
Reads names level depth source symbols result =
    MatchResult result (λ r. ReadsOperand names level depth symbols r.0 (symbols_of source r.1.now)) (RefusesOperand names level depth symbols)

-- The next symbol is not a closing parenthesis.
abbrev pub BeginsWithoutClose : List Symbol → Type 0
BeginsWithoutClose [] = Unit {0}
BeginsWithoutClose (Mark s ∷ rest) = is_close s ≡ false
BeginsWithoutClose (_ ∷ rest) = Unit {0}

abbrev pub is_prefix_kind : Kind → Bool
is_prefix_kind (SignOf s) = is_prefix s
is_prefix_kind _ = false

-- A prefix operator applied to an operand.
abbrev pub signed_by : Kind → Outcome → Outcome
signed_by (SignOf s) x = prefix_outcome s x
signed_by _ x = x

abbrev pub signed_outcome : List Token → Outcome → Outcome
signed_outcome [] x = x
signed_outcome (t ∷ ts) x = signed_by t.kind (signed_outcome ts x)
