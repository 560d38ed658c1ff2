-- The modifier of an instruction that is written without one (1994 draft). The draft does not know
-- NOP and SNE: here they go with DAT and SEQ.
use Rattle.rc_instr.specs.declared.instruction.Opcode.{Opcode}
use Rattle.rc_instr.specs.declared.instruction.Opcode.TheVariants.{Dat, Mov, Add, Sub, Mul, Div, Mod, Jmp, Jmz, Jmn, Djn, Seq, Sne, Slt, Spl, Nop}
use Rattle.rc_instr.specs.declared.instruction.Modifier.{Modifier}
use Rattle.rc_instr.specs.declared.instruction.Modifier.TheVariants.{B, AB, F, I}
use Rattle.rc_instr.specs.declared.instruction.Mode.{Mode}
use Rattle.rc_instr.specs.declared.instruction.Mode.TheVariants.{Immediate}

-- AB if the A-operand is immediate.
abbrev pub ab_or : Modifier → Mode → Modifier
ab_or otherwise Immediate = AB
ab_or otherwise _ = otherwise

-- B if the B-operand is immediate.
abbrev pub b_or : Modifier → Mode → Modifier
b_or otherwise Immediate = B
b_or otherwise _ = otherwise

-- The default modifier of an opcode with an A-operand and a B-operand of these modes.
unfoldable pub default_modifier_of : Opcode → Mode → Mode → Modifier
default_modifier_of Dat a b = F
default_modifier_of Nop a b = F
default_modifier_of Mov a b = ab_or (b_or I b) a
default_modifier_of Seq a b = ab_or (b_or I b) a
default_modifier_of Sne a b = ab_or (b_or I b) a
default_modifier_of Add a b = ab_or (b_or F b) a
default_modifier_of Sub a b = ab_or (b_or F b) a
default_modifier_of Mul a b = ab_or (b_or F b) a
default_modifier_of Div a b = ab_or (b_or F b) a
default_modifier_of Mod a b = ab_or (b_or F b) a
default_modifier_of Slt a b = ab_or B a
default_modifier_of Jmp a b = B
default_modifier_of Jmz a b = B
default_modifier_of Jmn a b = B
default_modifier_of Djn a b = B
default_modifier_of Spl a b = B
