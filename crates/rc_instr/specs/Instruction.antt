-- Instructions: a number for each variant, equality, and the empty cell.
use Rattle.std.specs.Prelude.{ℕ, Bool, ◌==◌, ◌&&◌}
use Rattle.rc_instr.specs.declared.instruction.Instruction.{Instruction}
use Rattle.rc_instr.specs.declared.instruction.Opcode.{Opcode}
use Rattle.rc_instr.specs.declared.instruction.Opcode.TheVariants.{Dat, Mov, Add, Sub, Mul, Div, Mod, Jmp, Jmz, Jmn, Djn, Seq, Sne, Slt, Spl, Nop}
use Rattle.rc_instr.specs.declared.instruction.Modifier.{Modifier}
use Rattle.rc_instr.specs.declared.instruction.Modifier.TheVariants.{A, B, AB, BA, F, X, I}
use Rattle.rc_instr.specs.declared.instruction.Mode.{Mode}
use Rattle.rc_instr.specs.declared.instruction.Mode.TheVariants.{Immediate, Direct, AIndirect, BIndirect, APredecrement, BPredecrement, APostincrement, BPostincrement}

-- The variants are numbered in the order of their declaration.
abbrev pub opcode_number : Opcode → ℕ
opcode_number Dat = 0
opcode_number Mov = 1
opcode_number Add = 2
opcode_number Sub = 3
opcode_number Mul = 4
opcode_number Div = 5
opcode_number Mod = 6
opcode_number Jmp = 7
opcode_number Jmz = 8
opcode_number Jmn = 9
opcode_number Djn = 10
opcode_number Seq = 11
opcode_number Sne = 12
opcode_number Slt = 13
opcode_number Spl = 14
opcode_number Nop = 15

abbrev pub modifier_number : Modifier → ℕ
modifier_number A = 0
modifier_number B = 1
modifier_number AB = 2
modifier_number BA = 3
modifier_number F = 4
modifier_number X = 5
modifier_number I = 6

abbrev pub mode_number : Mode → ℕ
mode_number Immediate = 0
mode_number Direct = 1
mode_number AIndirect = 2
mode_number BIndirect = 3
mode_number APredecrement = 4
mode_number BPredecrement = 5
mode_number APostincrement = 6
mode_number BPostincrement = 7

-- Two instructions are the same if all six parts are.
unfoldable pub same_instruction : Instruction → Instruction → Bool
same_instruction a b =
    (opcode_number a.opcode == opcode_number b.opcode)
    && ((modifier_number a.modifier == modifier_number b.modifier)
    && ((mode_number a.a_mode == mode_number b.a_mode)
    && ((a.a_number == b.a_number)
    && ((mode_number a.b_mode == mode_number b.b_mode)
    && (a.b_number == b.b_number)))))

-- An empty cell holds `DAT.F $0, $0` (pMARS).
abbrev pub empty_cell : Instruction
empty_cell = record { opcode = Dat; modifier = F; a_mode = Direct; a_number = 0; b_mode = Direct; b_number = 0 }
