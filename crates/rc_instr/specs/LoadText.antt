-- The load file of a warrior: the one spelling that is written and read. pMARS can read it too.
use Rattle.std.specs.Prelude.{ℕ, ◌-◌, ◌*◌, nat_le, if◌then◌else◌, List, [], ◌∷◌, ◌++◌, codes, flat_map, Option}
use Rattle.std.specs.List.{find}
use Rattle.std.specs.Str.{bytes_eq}
use Rattle.std.specs.Fmt.{decimal}
use Rattle.rc_instr.specs.Words.{opcode_text, modifier_text}
use Rattle.rc_instr.specs.Warrior.{WarriorView}
use Rattle.rc_instr.specs.declared.instruction.Instruction.{Instruction}
use Rattle.rc_instr.specs.declared.instruction.Mode.{Mode}
use Rattle.rc_instr.specs.declared.instruction.Mode.TheVariants.{Immediate, Direct, AIndirect, BIndirect, APredecrement, BPredecrement, APostincrement, BPostincrement}

abbrev pub mode_text : Mode → List ℕ
mode_text Immediate = codes "#"
mode_text Direct = codes "$"
mode_text AIndirect = codes "*"
mode_text BIndirect = codes "@"
mode_text APredecrement = codes "{"
mode_text BPredecrement = codes "<"
mode_text APostincrement = codes "}"
mode_text BPostincrement = codes ">"

-- All modes.
abbrev pub modes : List Mode
modes = Immediate ∷ Direct ∷ AIndirect ∷ BIndirect ∷ APredecrement ∷ BPredecrement ∷ APostincrement ∷ BPostincrement ∷ []

-- The mode with this sign.
abbrev pub mode_of : List ℕ → Option Mode
mode_of sign = find (λ m. bytes_eq sign (mode_text m)) modes

-- The number k in a core of m cells is written as k, or as k - m if 2k is above m.
unfoldable pub number_text : ℕ → ℕ → List ℕ
number_text m k = if nat_le (2 * k) m then decimal k else codes "-" ++ decimal (m - k)

-- An operand is a mode and a number, as `$-1`.
unfoldable pub operand_text : ℕ → Mode → ℕ → List ℕ
operand_text m mode k = mode_text mode ++ number_text m k

-- The line of an instruction, as `MOV.I $0, $1`.
unfoldable pub line_text : ℕ → Instruction → List ℕ
line_text m i =
    opcode_text i.opcode ++ codes "." ++ modifier_text i.modifier ++ codes " "
    ++ operand_text m i.a_mode i.a_number ++ codes ", " ++ operand_text m i.b_mode i.b_number ++ 10 ∷ []

-- The first line, as `ORG 0`.
unfoldable pub start_text : ℕ → List ℕ
start_text start = codes "ORG " ++ decimal start ++ 10 ∷ []

-- The lines of code.
abbrev pub code_text : ℕ → List Instruction → List ℕ
code_text m code = flat_map (line_text m) code

-- The load file of a warrior in a core of m cells.
unfoldable pub load_text : ℕ → WarriorView → List ℕ
load_text m w = start_text w.start ++ code_text m w.code
