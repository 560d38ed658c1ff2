-- What the parts of a load file's bytes mean, read from the front.
use Rattle.std.specs.Prelude.{ℕ, ◌-◌, ◌*◌, ◌^◌, Bool, ◌&&◌, ◌==◌, nat_lt, nat_le, if◌then◌else◌, List, [], ◌∷◌, take, drop, Option, Some, None, option_map, option_and_then}
use Rattle.std.specs.Fmt.{decimal}
use Rattle.std.specs.Str.{byte, bytes_eq}
use Rattle.rc_instr.specs.Digits.{digits_len, read_on}
use Rattle.rc_instr.specs.Words.{opcode_of, modifier_of}
use Rattle.rc_instr.specs.LoadText.{mode_of}
use Rattle.rc_instr.specs.declared.instruction.Instruction.{Instruction}
use Rattle.rc_instr.specs.declared.instruction.Opcode.{Opcode}
use Rattle.rc_instr.specs.declared.instruction.Modifier.{Modifier}
use Rattle.rc_instr.specs.declared.instruction.Mode.{Mode}

-- A reader takes a value off the front of bytes, and gives it with the bytes after it.
abbrev pub Reader : Type 0 → Type 0
Reader A = List ℕ → Option (A × List ℕ)

-- One reader after the other.
infixl 10 ◌>>=◌
abbrev pub ◌>>=◌ : {A B : Type 0} → Reader A → (A → Reader B) → Reader B
r >>= f = λ bytes. option_and_then (λ x. f x.0 x.1) (r bytes)

-- Gives a value and takes nothing.
abbrev pub gives : {A : Type 0} → A → Reader A
gives x bytes = Some (x, bytes)

-- Gives a value, if there is one, and takes nothing.
abbrev pub given : {A : Type 0} → Option A → Reader A
given o bytes = option_map (λ x. (x, bytes)) o

-- Takes this byte.
abbrev pub this_byte : ℕ → Reader (Unit {0})
this_byte b [] = None
this_byte b (first ∷ rest) = if first == b then Some (tt, rest) else None

-- An opcode is three letters.
unfoldable pub opcode_at : Reader Opcode
opcode_at (a ∷ b ∷ c ∷ rest) = given (opcode_of (a ∷ b ∷ c ∷ [])) rest
opcode_at _ = None

-- A modifier of one or two letters, and the space after it, since `A` alone begins `AB` too.
unfoldable pub modifier_at : Reader Modifier
modifier_at (a ∷ b ∷ rest) =
    if b == byte " " then given (modifier_of (a ∷ [])) rest else
    (do
      m ← given (modifier_of (a ∷ b ∷ []))
      _ ← this_byte (byte " ")
      gives m) rest
modifier_at _ = None

-- A mode is one sign.
unfoldable pub mode_at : Reader Mode
mode_at [] = None
mode_at (a ∷ rest) = given (mode_of (a ∷ [])) rest

-- The number of digits, if they are its decimal and it is below 2 ^ 16.
abbrev pub short_number : List ℕ → Option ℕ
short_number digits = let n = read_on 0 digits in if nat_lt n (2 ^ 16) && bytes_eq digits (decimal n) then Some n else None

-- All digits at the front are one decimal.
unfoldable pub short_number_at : Reader ℕ
short_number_at bytes = given (short_number (take (digits_len bytes) bytes)) (drop (digits_len bytes) bytes)

-- The value, if it passes the test.
abbrev pub if_passes : {A : Type 0} → Bool → A → Option A
if_passes passes x = if passes then Some x else None

-- A number up to half the core size `m` has no sign.
abbrev pub small_at : ℕ → Reader ℕ
small_at m = do
  n ← short_number_at
  given (if_passes (nat_le (2 * n) m) n)

-- A number above half the core size is written less the core size: these are the digits after the
-- minus sign.
abbrev pub large_at : ℕ → Reader ℕ
large_at m = do
  n ← short_number_at
  given (if_passes (nat_lt 0 n && nat_lt (2 * n) m) (m - n))

abbrev pub number_by : ℕ → Option (Unit {0} × List ℕ) → Reader ℕ
number_by m (Some minus) bytes = large_at m minus.1
number_by m None bytes = small_at m bytes

-- A number below the core size.
unfoldable pub number_at : ℕ → Reader ℕ
number_at m bytes = number_by m (this_byte (byte "-") bytes) bytes

-- An operand is a mode and a number, as `$-1`.
unfoldable pub operand_at : ℕ → Reader (Mode × ℕ)
operand_at m = do
  mode ← mode_at
  n ← number_at m
  gives (mode, n)

-- An opcode, a dot, a modifier and a space.
unfoldable pub head_at : Reader (Opcode × Modifier)
head_at = do
  opcode ← opcode_at
  _ ← this_byte (byte ".")
  modifier ← modifier_at
  gives (opcode, modifier)

-- A comma and a space.
unfoldable pub comma_at : Reader (Unit {0})
comma_at = do
  _ ← this_byte (byte ",")
  this_byte (byte " ")

-- The line of an instruction, as `MOV.I $0, $1`.
unfoldable pub line_at : ℕ → Reader Instruction
line_at m = do
  head ← head_at
  a ← operand_at m
  _ ← comma_at
  b ← operand_at m
  _ ← this_byte (byte "\n")
  gives (record { opcode = head.0; modifier = head.1; a_mode = a.0; a_number = a.1; b_mode = b.0; b_number = b.1 })

-- The first line, as `ORG 0`.
unfoldable pub start_at : Reader ℕ
start_at = do
  _ ← this_byte (byte "O")
  _ ← this_byte (byte "R")
  _ ← this_byte (byte "G")
  _ ← this_byte (byte " ")
  n ← short_number_at
  _ ← this_byte (byte "\n")
  gives n
