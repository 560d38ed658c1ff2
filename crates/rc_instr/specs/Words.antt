-- The words of opcodes and modifiers, in capitals. A load file has these words alone; a Redcode
-- text has them in letters of any case, and CMP for SEQ. They are the 1994 draft's, but for SEQ,
-- SNE and NOP, which are pMARS's.
use Rattle.std.specs.Prelude.{ℕ, List, [], ◌∷◌, map, Option, Some, if◌then◌else◌, codes}
use Rattle.std.specs.Char.{to_ascii_uppercase}
use Rattle.std.specs.List.{find}
use Rattle.std.specs.Str.{bytes_eq}
use Rattle.rc_instr.specs.declared.instruction.Opcode.{Opcode}
use Rattle.rc_instr.specs.declared.instruction.Opcode.TheVariants.{Dat, Mov, Add, Sub, Mul, Div, Mod, Jmp, Jmz, Jmn, Djn, Seq, Sne, Slt, Spl, Nop}
use Rattle.rc_instr.specs.declared.instruction.Modifier.{Modifier}
use Rattle.rc_instr.specs.declared.instruction.Modifier.TheVariants.{A, B, AB, BA, F, X, I}

-- The word of each opcode: always SEQ, never CMP.
abbrev pub opcode_text : Opcode → List ℕ
opcode_text Dat = codes "DAT"
opcode_text Mov = codes "MOV"
opcode_text Add = codes "ADD"
opcode_text Sub = codes "SUB"
opcode_text Mul = codes "MUL"
opcode_text Div = codes "DIV"
opcode_text Mod = codes "MOD"
opcode_text Jmp = codes "JMP"
opcode_text Jmz = codes "JMZ"
opcode_text Jmn = codes "JMN"
opcode_text Djn = codes "DJN"
opcode_text Seq = codes "SEQ"
opcode_text Sne = codes "SNE"
opcode_text Slt = codes "SLT"
opcode_text Spl = codes "SPL"
opcode_text Nop = codes "NOP"

-- The word of each modifier.
abbrev pub modifier_text : Modifier → List ℕ
modifier_text A = codes "A"
modifier_text B = codes "B"
modifier_text AB = codes "AB"
modifier_text BA = codes "BA"
modifier_text F = codes "F"
modifier_text X = codes "X"
modifier_text I = codes "I"

-- All opcodes.
abbrev pub opcodes : List Opcode
opcodes = Dat ∷ Mov ∷ Add ∷ Sub ∷ Mul ∷ Div ∷ Mod ∷ Jmp ∷ Jmz ∷ Jmn ∷ Djn ∷ Seq ∷ Sne ∷ Slt ∷ Spl ∷ Nop ∷ []

-- All modifiers.
abbrev pub modifiers : List Modifier
modifiers = A ∷ B ∷ AB ∷ BA ∷ F ∷ X ∷ I ∷ []

-- The opcode with this word.
abbrev pub opcode_of : List ℕ → Option Opcode
opcode_of word = find (λ o. bytes_eq word (opcode_text o)) opcodes

-- The modifier with this word.
abbrev pub modifier_of : List ℕ → Option Modifier
modifier_of word = find (λ m. bytes_eq word (modifier_text m)) modifiers

-- The opcode with this word, where CMP is another word for SEQ.
abbrev pub opcode_or_cmp : List ℕ → Option Opcode
opcode_or_cmp word = if bytes_eq word (codes "CMP") then Some Seq else opcode_of word

-- The opcode that a name is, in letters of any case.
abbrev pub opcode_named : List ℕ → Option Opcode
opcode_named name = opcode_or_cmp (map to_ascii_uppercase name)

-- The modifier that a name is, in letters of any case.
abbrev pub modifier_named : List ℕ → Option Modifier
modifier_named name = modifier_of (map to_ascii_uppercase name)
