-- The form of a line of code: an opcode, a modifier after a dot, and operands separated by a comma
-- (1994 draft).
use Rattle.std.specs.Prelude.{ℕ, List, [], ◌∷◌, Option, Some, None, if◌then◌else◌, Result, Err}
use Rattle.std.specs.Option.{ok_or}
use Rattle.rc_text.specs.declared.token.Token.{Token}
use Rattle.rc_expand.specs.Read.Lines.{is_dot, into_first}
use Rattle.rc_instr.specs.declared.instruction.Opcode.{Opcode}
use Rattle.rc_instr.specs.declared.instruction.Opcode.TheVariants.{Dat, Jmp, Spl, Nop}
use Rattle.rc_instr.specs.declared.instruction.Modifier.{Modifier}
use Rattle.rc_asm.specs.declared.fault.AsmKind.{AsmKind}
use Rattle.rc_asm.specs.declared.fault.AsmKind.TheVariants.{UnknownOpcode, MissingOperand, ExtraText}
use Rattle.rc_instr.specs.Results.{mapped, ◌>>=◌}
use Rattle.rc_asm.specs.Words.{is_comma, opcode_in, modifier_in}

-- The parts between commas; there is at least one.
abbrev pub parts_from : List Token → List (List Token)
parts_from [] = [] ∷ []
parts_from (t ∷ ts) = if is_comma t then [] ∷ parts_from ts else into_first t (parts_from ts)

-- The parts between commas; no tokens have no parts.
unfoldable pub parts : List Token → List (List Token)
parts [] = []
parts (t ∷ ts) = parts_from (t ∷ ts)

-- The tokens of the operands; None for one that is not written.
pub record OperandTokensView : Type 0 where
  pub a : Option (List Token)
  pub b : Option (List Token)

abbrev pub operand_tokens : Option (List Token) → Option (List Token) → OperandTokensView
operand_tokens a b = record { a = a; b = b }

-- DAT and NOP need no operand.
abbrev pub no_operand : Opcode → Option OperandTokensView
no_operand Dat = Some (operand_tokens None None)
no_operand Nop = Some (operand_tokens None None)
no_operand _ = None

-- DAT takes one operand as its B-operand; JMP, SPL and NOP take it as their A-operand.
abbrev pub one_operand : Opcode → List Token → Option OperandTokensView
one_operand Dat p = Some (operand_tokens None (Some p))
one_operand Jmp p = Some (operand_tokens (Some p) None)
one_operand Spl p = Some (operand_tokens (Some p) None)
one_operand Nop p = Some (operand_tokens (Some p) None)
one_operand _ p = None

-- Neither side of the comma is empty.
abbrev pub two_operands : List Token → List Token → Option OperandTokensView
two_operands [] b = None
two_operands (t ∷ a) [] = None
two_operands (t ∷ a) (u ∷ b) = Some (operand_tokens (Some (t ∷ a)) (Some (u ∷ b)))

-- The operands of an opcode; two commas are too many.
abbrev pub operands_of : Opcode → List (List Token) → Result OperandTokensView AsmKind
operands_of o [] = ok_or (no_operand o) MissingOperand
operands_of o (p ∷ []) = ok_or (one_operand o p) MissingOperand
operands_of o (p ∷ q ∷ []) = ok_or (two_operands p q) MissingOperand
operands_of o (p ∷ q ∷ r ∷ ps) = Err ExtraText

-- A line of code in its parts; the modifier is None if it is not written.
pub record FormView : Type 0 where
  pub opcode : Opcode
  pub modifier : Option Modifier
  pub operands : OperandTokensView

abbrev pub form : Opcode → Option Modifier → OperandTokensView → FormView
form o m operands = record { opcode = o; modifier = m; operands = operands }

unfoldable pub with_operands : Opcode → Option Modifier → List Token → Result FormView AsmKind
with_operands o m ts = mapped (form o m) (operands_of o (parts ts))

-- What follows the opcode and a dot.
unfoldable pub with_modifier : List ℕ → Opcode → List Token → Result FormView AsmKind
with_modifier source o [] = Err UnknownOpcode
with_modifier source o (t ∷ ts) = do
  m ← ok_or (modifier_in source t) UnknownOpcode
  with_operands o (Some m) ts

-- What follows the opcode.
unfoldable pub after_opcode : List ℕ → Opcode → List Token → Result FormView AsmKind
after_opcode source o [] = with_operands o None []
after_opcode source o (t ∷ ts) = if is_dot t then with_modifier source o ts else with_operands o None (t ∷ ts)

-- The parts of a line of code, or what is wrong with its form.
unfoldable pub form_of : List ℕ → List Token → Result FormView AsmKind
form_of source [] = Err UnknownOpcode
form_of source (t ∷ ts) = do
  o ← ok_or (opcode_in source t) UnknownOpcode
  after_opcode source o ts
