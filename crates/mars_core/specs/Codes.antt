-- Opcodes, modifiers and modes by number, in the order of their declaration.
use Rattle.std.specs.Prelude.{ℕ, ◌==◌, if◌then◌else◌}
use Rattle.rc_instr.specs.declared.instruction.Opcode.{Opcode}
use Rattle.rc_instr.specs.declared.instruction.Opcode.TheVariants.{Dat, Mov, Add, Sub, Mul, Div, Mod, Jmp, Jmz, Jmn, Djn, Seq, Sne, Slt, Spl, Nop}
use Rattle.rc_instr.specs.declared.instruction.Modifier.{Modifier}
use Rattle.rc_instr.specs.declared.instruction.Modifier.TheVariants.{A, B, AB, BA, F, X, I}
use Rattle.rc_instr.specs.declared.instruction.Mode.{Mode}
use Rattle.rc_instr.specs.declared.instruction.Mode.TheVariants.{Immediate, Direct, AIndirect, BIndirect, APredecrement, BPredecrement, APostincrement, BPostincrement}

-- A code is 8 times the number of an opcode plus the number of a modifier. Modifiers have the
-- numbers 0 to 6; 7 is read as the last one, I, too.
abbrev pub code_count : ℕ
code_count = 128

abbrev pub opcode_of : ℕ → Opcode
opcode_of n =
    if n == 0 then Dat else if n == 1 then Mov else if n == 2 then Add else if n == 3 then Sub
    else if n == 4 then Mul else if n == 5 then Div else if n == 6 then Mod else if n == 7 then Jmp
    else if n == 8 then Jmz else if n == 9 then Jmn else if n == 10 then Djn else if n == 11 then Seq
    else if n == 12 then Sne else if n == 13 then Slt else if n == 14 then Spl else Nop

abbrev pub modifier_of : ℕ → Modifier
modifier_of n =
    if n == 0 then A else if n == 1 then B else if n == 2 then AB else if n == 3 then BA
    else if n == 4 then F else if n == 5 then X else I

abbrev pub mode_of : ℕ → Mode
mode_of n =
    if n == 0 then Immediate else if n == 1 then Direct else if n == 2 then AIndirect else if n == 3 then BIndirect
    else if n == 4 then APredecrement else if n == 5 then BPredecrement else if n == 6 then APostincrement else BPostincrement
