-- An instruction in one word of 64 bits, with a mark. From the lowest bit on:
--
--   bits   0 .. 7   15     16 .. 31   32 .. 34   35 .. 38   40 .. 42   43 .. 45   48 .. 63
--          class    mark   A-number   modifier   opcode     A-mode     B-mode     B-number
--
-- The other bits are 0, and bits 32 to 47 are the key. `packed` multiplies a part by 2 to the power
-- of its first bit.
use Rattle.std.specs.Prelude.{◌≡◌, ℕ, Bool, ◌+◌, ◌-◌, ◌*◌, ◌/◌, ◌%◌, ◌^◌, ◌==◌}
use Rattle.rc_instr.specs.Instruction.{empty_cell}
use Rattle.rc_instr.specs.declared.instruction.Instruction.{Instruction}
use Rattle.mars_core.specs.Classes.{class_range, key_of, class_of, IsClassOf}
use Rattle.mars_core.specs.Codes.{opcode_of, modifier_of, mode_of}

-- The word of an instruction, without a mark.
unfoldable pub packed : Instruction → ℕ
packed i = class_of i + 2 ^ 16 * i.a_number + 2 ^ 32 * key_of i + 2 ^ 48 * i.b_number

-- The instruction of a word.
unfoldable pub unpacked : ℕ → Instruction
unpacked w = record {
  opcode = opcode_of (w / 2 ^ 35 % 16);
  modifier = modifier_of (w / 2 ^ 32 % 8);
  a_mode = mode_of (w / 2 ^ 40 % 8);
  a_number = w / 2 ^ 16 % 2 ^ 16;
  b_mode = mode_of (w / 2 ^ 43 % 8);
  b_number = w / 2 ^ 48;
}

-- The class that a word keeps.
abbrev pub class_in : ℕ → ℕ
class_in w = w % class_range

-- The class in a word is true of its instruction, and its key is that of the instruction: so words of
-- equal instructions differ in class and mark alone.
pub record IsClassed (w : ℕ) : Type 0 where
  pub class_is : IsClassOf (unpacked w) (class_in w)
  pub key_is : w / 2 ^ 32 % 2 ^ 16 ≡ key_of (unpacked w)

-- 1 if the word is marked, else 0.
unfoldable pub mark_of : ℕ → ℕ
mark_of w = w / 2 ^ 15 % 2

-- The word with a mark.
unfoldable pub marked : ℕ → ℕ
marked w = w + 2 ^ 15 * (1 - mark_of w)

abbrev pub is_marked : ℕ → Bool
is_marked w = mark_of w == 1

-- The word of the empty cell, without a mark.
unfoldable pub empty_word : ℕ
empty_word = packed empty_cell
