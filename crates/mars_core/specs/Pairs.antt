-- Which numbers a modifier pairs, and what opcodes compute from them (1994 draft).
use Rattle.std.specs.Prelude.{ℕ, ◌/◌, ◌%◌, Bool, true, not, ◌&&◌, ◌==◌, nat_lt, if◌then◌else◌, List, [], ◌∷◌, Option, Some, None}
use Rattle.rc_instr.specs.Instruction.{same_instruction}
use Rattle.rc_instr.specs.declared.instruction.Instruction.{Instruction}
use Rattle.rc_instr.specs.declared.instruction.Opcode.{Opcode}
use Rattle.rc_instr.specs.declared.instruction.Opcode.TheVariants.{Mov, Add, Sub, Mul, Div, Mod}
use Rattle.rc_instr.specs.declared.instruction.Modifier.{Modifier}
use Rattle.rc_instr.specs.declared.instruction.Modifier.TheVariants.{A, B, AB, BA, F, X, I}
use Rattle.mars_core.specs.Core.{sum_of, difference_of, product_of, field_of, with_field}
use Rattle.mars_core.specs.declared.number.Field.{Field}
use Rattle.mars_core.specs.declared.number.Field.TheVariants.{ANumber, BNumber}

-- Each pair leads from a number of the A-instruction to a number of the B-instruction. I has the
-- pairs of F, except that MOV, SEQ and SNE take whole instructions with it.
abbrev pub pairs_of : Modifier → List (Field × Field)
pairs_of A = (ANumber, ANumber) ∷ []
pairs_of B = (BNumber, BNumber) ∷ []
pairs_of AB = (ANumber, BNumber) ∷ []
pairs_of BA = (BNumber, ANumber) ∷ []
pairs_of F = (ANumber, ANumber) ∷ (BNumber, BNumber) ∷ []
pairs_of X = (ANumber, BNumber) ∷ (BNumber, ANumber) ∷ []
pairs_of I = (ANumber, ANumber) ∷ (BNumber, BNumber) ∷ []

-- What an opcode writes for a pair of an A-value and a B-value. DIV and MOD write nothing if the
-- A-value is 0.
unfoldable pub written_value : Opcode → ℕ → ℕ → ℕ → Option ℕ
written_value Mov m a b = Some a
written_value Add m a b = Some (sum_of m b a)
written_value Sub m a b = Some (difference_of m b a)
written_value Mul m a b = Some (product_of m b a)
written_value Div m a b = if a == 0 then None else Some (b / a)
written_value Mod m a b = if a == 0 then None else Some (b % a)
written_value _ m a b = None

abbrev pub put : Field → Option ℕ → Instruction → Instruction
put field None i = i
put field (Some n) i = with_field field n i

-- The target after the value of each pair is written to the number that the pair leads to.
abbrev pub written : (ℕ → ℕ → Option ℕ) → List (Field × Field) → Instruction → Instruction → Instruction → Instruction
written value [] a b target = target
written value (p ∷ ps) a b target = written value ps a b (put p.1 (value (field_of p.0 a) (field_of p.1 b)) target)

-- A test holds for the A-value and the B-value of every pair.
abbrev pub every_pair : (ℕ → ℕ → Bool) → List (Field × Field) → Instruction → Instruction → Bool
every_pair test [] a b = true
every_pair test (p ∷ ps) a b = test (field_of p.0 a) (field_of p.1 b) && every_pair test ps a b

-- The target after MOV, ADD, SUB, MUL, DIV or MOD. MOV takes the whole instruction with I.
unfoldable pub computed : Opcode → Modifier → ℕ → Instruction → Instruction → Instruction → Instruction
computed Mov I m a b target = a
computed opcode modifier m a b target = written (written_value opcode m) (pairs_of modifier) a b target

-- The target after DJN: the numbers that it tests are lowered by 1.
unfoldable pub counted_down : Modifier → ℕ → Instruction → Instruction
counted_down modifier m target = written (λ _ x. Some (difference_of m x 1)) (pairs_of modifier) target target target

-- Some A-value is 0.
unfoldable pub has_zero_divisor : Modifier → Instruction → Bool
has_zero_divisor modifier a = not (every_pair (λ x _. not (x == 0)) (pairs_of modifier) a a)

-- All numbers to which the pairs lead are n: what JMZ, JMN and DJN test.
unfoldable pub all_are : Modifier → ℕ → Instruction → Bool
all_are modifier n b = every_pair (λ _ y. y == n) (pairs_of modifier) b b

-- The values of every pair are equal; with I, the whole instructions are.
unfoldable pub are_equal : Modifier → Instruction → Instruction → Bool
are_equal I a b = same_instruction a b
are_equal modifier a b = every_pair (λ x y. x == y) (pairs_of modifier) a b

-- Every A-value is less than its B-value.
unfoldable pub are_less : Modifier → Instruction → Instruction → Bool
are_less modifier a b = every_pair nat_lt (pairs_of modifier) a b
