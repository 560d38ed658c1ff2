-- Classes of instructions. Each below `first_of_modes` is a frequent opcode with its canonical
-- modifier and its modes; docs/HOT_LOOP.md says how these were chosen. Each of the others says the
-- modes of both operands, and nothing else. classes.py writes the tables.
use Rattle.std.specs.Prelude.{◌≡◌, ℕ, ◌+◌, ◌*◌, ◌/◌, ◌<◌, ◌≤◌, ◌==◌, if◌then◌else◌}
use Rattle.rc_instr.specs.Instruction.{opcode_number, modifier_number, mode_number}
use Rattle.rc_instr.specs.declared.instruction.Instruction.{Instruction}
use Rattle.rc_instr.specs.declared.instruction.Opcode.{Opcode}
use Rattle.rc_instr.specs.declared.instruction.Opcode.TheVariants.{Dat, Mov, Jmp, Seq, Sne, Spl, Nop}
use Rattle.rc_instr.specs.declared.instruction.Modifier.{Modifier}
use Rattle.rc_instr.specs.declared.instruction.Modifier.TheVariants.{B, F, I}

-- Classes below this one are the most frequent instructions.
abbrev pub first_of_further : ℕ
first_of_further = 64

-- Classes below this one are frequent instructions; the others say modes, and nothing else.
abbrev pub first_of_modes : ℕ
first_of_modes = 128

-- A class has 8 bits of a word. The values from 192 on are not classes.
abbrev pub class_range : ℕ
class_range = 256

-- The modifier that pairs the same numbers: F in place of I.
abbrev pub in_pairs : Modifier → Modifier
in_pairs I = F
in_pairs k = k

-- The canonical modifier of an instruction stands for all with which it does the same: F for I, but
-- not with MOV, SEQ and SNE, which then take whole instructions; and F or B for any modifier, with
-- the opcodes that have no use for one.
abbrev pub canonical_modifier : Opcode → Modifier → Modifier
canonical_modifier Dat k = F
canonical_modifier Jmp k = B
canonical_modifier Spl k = B
canonical_modifier Nop k = B
canonical_modifier Mov k = k
canonical_modifier Seq k = k
canonical_modifier Sne k = k
canonical_modifier _ k = in_pairs k

-- The key of an instruction is made of its opcode, modifier and modes.
abbrev pub key_of : Instruction → ℕ
key_of i = modifier_number i.modifier + 8 * opcode_number i.opcode + 256 * (mode_number i.a_mode + 8 * mode_number i.b_mode)

-- The class of each key, in parts: the prover does not search through a long table at once.
unfoldable pub class_from_96 : ℕ → ℕ
class_from_96 k =
    -- table of keys from 96
    if k == 14673 then 96  -- DJN.B $, >
    else if k == 6481 then 97  -- DJN.B $, @
    else if k == 57 then 98  -- JMP.B #, #
    else if k == 4153 then 99  -- JMP.B #, *
    else if k == 14393 then 100  -- JMP.B #, >
    else if k == 4420 then 101  -- JMZ.F $, *
    else if k == 6468 then 102  -- JMZ.F $, @
    else if k == 14660 then 103  -- JMZ.F $, >
    else if k == 8513 then 104  -- JMZ.B $, {
    else if k == 10561 then 105  -- JMZ.B $, <
    else if k == 4417 then 106  -- JMZ.B $, *
    else if k == 4425 then 107  -- JMN.B $, *
    else if k == 6473 then 108  -- JMN.B $, @
    else if k == 8561 then 109  -- SPL.B $, {
    else if k == 14705 then 110  -- SPL.B $, >
    else if k == 12657 then 111  -- SPL.B $, }
    else if k == 4209 then 112  -- SPL.B #, *
    else if k == 2673 then 113  -- SPL.B *, $
    else if k == 8817 then 114  -- SPL.B *, {
    else if k == 12345 then 115  -- JMP.B #, }
    else if k == 2064 then 116  -- ADD.A #, $
    else if k == 2072 then 117  -- SUB.A #, $
    else if k == 2068 then 118  -- ADD.F #, $
    else if k == 2096 then 119  -- MOD.A #, $
    else if k == 2329 then 120  -- SUB.B $, $
    else if k == 2325 then 121  -- ADD.X $, $
    else if k == 2333 then 122  -- SUB.X $, $
    else if k == 2154 then 123  -- SLT.AB #, $
    else if k == 2152 then 124  -- SLT.A #, $
    else if k == 2397 then 125  -- SEQ.X $, $
    else if k == 2405 then 126  -- SNE.X $, $
    else if k == 10500 then 127  -- DAT.F $, <
    else first_of_modes + k / 256
    -- end of keys from 96

unfoldable pub class_from_64 : ℕ → ℕ
class_from_64 k =
    -- table of keys from 64
    if k == 10254 then 64  -- MOV.I #, <
    else if k == 14350 then 65  -- MOV.I #, >
    else if k == 9230 then 66  -- MOV.I {, {
    else if k == 15374 then 67  -- MOV.I {, >
    else if k == 13070 then 68  -- MOV.I @, }
    else if k == 12302 then 69  -- MOV.I #, }
    else if k == 9998 then 70  -- MOV.I >, {
    else if k == 13582 then 71  -- MOV.I <, }
    else if k == 12814 then 72  -- MOV.I *, }
    else if k == 8206 then 73  -- MOV.I #, {
    else if k == 7950 then 74  -- MOV.I >, @
    else if k == 13326 then 75  -- MOV.I {, }
    else if k == 15118 then 76  -- MOV.I @, >
    else if k == 12046 then 77  -- MOV.I >, <
    else if k == 11790 then 78  -- MOV.I }, <
    else if k == 3598 then 79  -- MOV.I }, $
    else if k == 13838 then 80  -- MOV.I }, }
    else if k == 9742 then 81  -- MOV.I }, {
    else if k == 16142 then 82  -- MOV.I >, >
    else if k == 15630 then 83  -- MOV.I <, >
    else if k == 2830 then 84  -- MOV.I @, $
    else if k == 2574 then 85  -- MOV.I *, $
    else if k == 14649 then 86  -- JMP.B $, >
    else if k == 12601 then 87  -- JMP.B $, }
    else if k == 10297 then 88  -- JMP.B #, <
    else if k == 8249 then 89  -- JMP.B #, {
    else if k == 2105 then 90  -- JMP.B #, $
    else if k == 2388 then 91  -- DJN.F $, $
    else if k == 6484 then 92  -- DJN.F $, @
    else if k == 10321 then 93  -- DJN.B #, <
    else if k == 8529 then 94  -- DJN.B $, {
    else if k == 12625 then 95  -- DJN.B $, }
    else class_from_96 k
    -- end of keys from 64

unfoldable pub class_from_32 : ℕ → ℕ
class_from_32 k =
    -- table of keys from 32
    if k == 2385 then 32  -- DJN.B $, $
    else if k == 11022 then 33  -- MOV.I @, <
    else if k == 11524 then 34  -- DAT.F <, <
    else if k == 15217 then 35  -- SPL.B @, >
    else if k == 10577 then 36  -- DJN.B $, <
    else if k == 2377 then 37  -- JMN.B $, $
    else if k == 3844 then 38  -- DAT.F >, $
    else if k == 4 then 39  -- DAT.F #, #
    else if k == 10353 then 40  -- SPL.B #, <
    else if k == 8305 then 41  -- SPL.B #, {
    else if k == 12401 then 42  -- SPL.B #, }
    else if k == 113 then 43  -- SPL.B #, #
    else if k == 11121 then 44  -- SPL.B @, <
    else if k == 9073 then 45  -- SPL.B @, {
    else if k == 13169 then 46  -- SPL.B @, }
    else if k == 4110 then 47  -- MOV.I #, *
    else if k == 12558 then 48  -- MOV.I $, }
    else if k == 8462 then 49  -- MOV.I $, {
    else if k == 14862 then 50  -- MOV.I *, >
    else if k == 3086 then 51  -- MOV.I {, $
    else if k == 9486 then 52  -- MOV.I <, {
    else if k == 3854 then 53  -- MOV.I >, $
    else if k == 14094 then 54  -- MOV.I >, }
    else if k == 8532 then 55  -- DJN.F $, {
    else if k == 12628 then 56  -- DJN.F $, }
    else if k == 11065 then 57  -- JMP.B @, <
    else if k == 15161 then 58  -- JMP.B @, >
    else if k == 10564 then 59  -- JMZ.F $, <
    else if k == 6750 then 60  -- SEQ.I *, @
    else if k == 6758 then 61  -- SNE.I *, @
    else if k == 6757 then 62  -- SNE.X *, @
    else if k == 3332 then 63  -- DAT.F <, $
    else class_from_64 k
    -- end of keys from 32

unfoldable pub class_of_key : ℕ → ℕ
class_of_key k =
    -- table of keys from 0
    if k == 2318 then 0  -- MOV.I $, $
    else if k == 2361 then 1  -- JMP.B $, $
    else if k == 6414 then 2  -- MOV.I $, @
    else if k == 2066 then 3  -- ADD.AB #, $
    else if k == 2161 then 4  -- SPL.B #, $
    else if k == 10553 then 5  -- JMP.B $, <
    else if k == 2929 then 6  -- SPL.B @, $
    else if k == 15886 then 7  -- MOV.I }, >
    else if k == 8505 then 8  -- JMP.B $, {
    else if k == 2324 then 9  -- ADD.F $, $
    else if k == 2406 then 10  -- SNE.I $, $
    else if k == 14606 then 11  -- MOV.I $, >
    else if k == 2074 then 12  -- SUB.AB #, $
    else if k == 10580 then 13  -- DJN.F $, <
    else if k == 2417 then 14  -- SPL.B $, $
    else if k == 10510 then 15  -- MOV.I $, <
    else if k == 2332 then 16  -- SUB.F $, $
    else if k == 2398 then 17  -- SEQ.I $, $
    else if k == 14676 then 18  -- DJN.F $, >
    else if k == 11278 then 19  -- MOV.I {, <
    else if k == 14449 then 20  -- SPL.B #, >
    else if k == 11534 then 21  -- MOV.I <, <
    else if k == 4366 then 22  -- MOV.I $, *
    else if k == 2308 then 23  -- DAT.F $, $
    else if k == 2873 then 24  -- JMP.B @, $
    else if k == 3342 then 25  -- MOV.I <, $
    else if k == 2058 then 26  -- MOV.AB #, $
    else if k == 337 then 27  -- DJN.B $, #
    else if k == 2369 then 28  -- JMZ.B $, $
    else if k == 10609 then 29  -- SPL.B $, <
    else if k == 6201 then 30  -- JMP.B #, @
    else if k == 2062 then 31  -- MOV.I #, $
    else class_from_32 k
    -- end of keys from 0

-- The instruction with its canonical modifier.
abbrev pub canonical : Instruction → Instruction
canonical i = record i { modifier = canonical_modifier i.opcode i.modifier }

abbrev pub class_of : Instruction → ℕ
class_of i = class_of_key (key_of (canonical i))

-- The class that gives the modes of an instruction, whether it is a frequent one or not.
abbrev pub modes_class_of : Instruction → ℕ
modes_class_of i = first_of_modes + mode_number i.a_mode + 8 * mode_number i.b_mode

-- What a class says of an instruction is true. One below `first_of_modes` is that of `class_of`;
-- any other is that of the instruction's modes, even if the instruction is a frequent one.
pub record IsClassOf (i : Instruction) (class : ℕ) : Type 0 where
  pub own : class < first_of_modes → class ≡ class_of i
  pub modes : first_of_modes ≤ class → class ≡ modes_class_of i
