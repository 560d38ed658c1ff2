-- The words and signs of a line of code. Opcodes, modifiers and modes are the 1994 draft's; SEQ,
-- SNE and NOP are pMARS's.
use Rattle.std.specs.Prelude.{ℕ, Bool, true, false, ◌&&◌, List, Option, Some, None, if◌then◌else◌}
use Rattle.rc_text.specs.declared.token.Sign.{Sign}
use Rattle.rc_text.specs.declared.token.Sign.TheVariants.{Comma, Hash, Dollar, Star, At, OpenBrace, CloseBrace, Less, Greater}
use Rattle.rc_text.specs.declared.token.Kind.{Kind}
use Rattle.rc_text.specs.declared.token.Kind.TheVariants.{Sign as SignOf}
use Rattle.rc_text.specs.declared.token.Token.{Token}
use Rattle.rc_expand.specs.Read.Lines.{is_name_token, is_unjoined, bytes_of}
use Rattle.rc_instr.specs.Words.{opcode_named, modifier_named}
use Rattle.rc_instr.specs.declared.instruction.Opcode.{Opcode}
use Rattle.rc_instr.specs.declared.instruction.Modifier.{Modifier}
use Rattle.rc_instr.specs.declared.instruction.Mode.{Mode}
use Rattle.rc_instr.specs.declared.instruction.Mode.TheVariants as mode

abbrev pub mode_of : Sign → Option Mode
mode_of Hash = Some mode.Immediate
mode_of Dollar = Some mode.Direct
mode_of Star = Some mode.AIndirect
mode_of At = Some mode.BIndirect
mode_of OpenBrace = Some mode.APredecrement
mode_of Less = Some mode.BPredecrement
mode_of CloseBrace = Some mode.APostincrement
mode_of Greater = Some mode.BPostincrement
mode_of _ = None

abbrev pub mode_of_kind : Kind → Option Mode
mode_of_kind (SignOf s) = mode_of s
mode_of_kind _ = None

abbrev pub mode_in : Token → Option Mode
mode_in t = mode_of_kind t.kind

abbrev pub is_comma_kind : Kind → Bool
is_comma_kind (SignOf Comma) = true
is_comma_kind _ = false

abbrev pub is_comma : Token → Bool
is_comma t = is_comma_kind t.kind

-- A name without a joined counter. One with a counter ends with a digit, so it is in no table.
abbrev pub is_plain : Token → Bool
is_plain t = is_name_token t && is_unjoined t.joined

unfoldable pub opcode_in : List ℕ → Token → Option Opcode
opcode_in source t = if is_plain t then opcode_named (bytes_of source t) else None

unfoldable pub modifier_in : List ℕ → Token → Option Modifier
modifier_in source t = if is_plain t then modifier_named (bytes_of source t) else None
