-- The instruction of a line of code.
use Rattle.std.specs.Prelude.{ℕ, ℤ, pos, negsuc, List, [], ◌∷◌, Option, Some, None, Result, Ok, Err, unwrap_or}
use Rattle.std.specs.Int.{int_rem_euclid}
use Rattle.rc_text.specs.declared.token.Token.{Token}
use Rattle.rc_text.specs.declared.fault.EvalFault.{EvalFault}
use Rattle.rc_text.specs.declared.fault.EvalFault.TheVariants.{Syntax}
use Rattle.rc_instr.specs.declared.instruction.Mode.{Mode}
use Rattle.rc_instr.specs.declared.instruction.Mode.TheVariants.{Direct}
use Rattle.rc_instr.specs.declared.instruction.Instruction.{Instruction}
use Rattle.rc_instr.specs.DefaultModifier.{default_modifier_of}
use Rattle.rc_asm.specs.declared.fault.AsmKind.{AsmKind}
use Rattle.rc_asm.specs.declared.fault.AsmKind.TheVariants.{Value}
use Rattle.rc_asm.specs.declared.operand.Operand.{Operand}
use Rattle.rc_instr.specs.Results.{mapped, with_fault, ◌>>=◌}
use Rattle.rc_asm.specs.Words.{mode_in}
use Rattle.rc_asm.specs.declared.scope.LabelsAs.TheVariants.{Distances}
use Rattle.rc_asm.specs.Names.{NameValues, value_at}
use Rattle.rc_asm.specs.Form.{FormView, form_of}

-- An integer that is not negative, as a natural number.
abbrev pub natural : ℤ → ℕ
natural (pos n) = n
natural (negsuc n) = 0

-- The remainder of a value in a core of m cells: 0 to m - 1.
unfoldable pub core_number : ℕ → ℤ → ℕ
core_number m z = natural (int_rem_euclid z (pos m))

abbrev pub operand : ℕ → Mode → ℤ → Operand
operand m mode z = record { mode = mode; number = core_number m z }

-- The instruction of a line and its operands; a modifier that is not written is the default one.
unfoldable pub instruction_of_parts : FormView → Operand → Operand → Instruction
instruction_of_parts form a b = record {
  opcode = form.opcode;
  modifier = unwrap_or form.modifier (default_modifier_of form.opcode a.mode b.mode);
  a_mode = a.mode;
  a_number = a.number;
  b_mode = b.mode;
  b_number = b.number;
}

module _ (source : List ℕ) (names : NameValues) (address : ℕ) where
  -- After the mode, everything is the expression; without a mode it is direct.
  abbrev pub operand_after : Option Mode → Token → List Token → Result Operand EvalFault
  operand_after (Some mode) t ts = mapped (operand names.rules.core mode) (value_at source names address Distances ts)
  operand_after None t ts = mapped (operand names.rules.core Direct) (value_at source names address Distances (t ∷ ts))

  -- An operand that is not written is `$0`.
  unfoldable pub operand_at : Option (List Token) → Result Operand EvalFault
  operand_at None = Ok (record { mode = Direct; number = 0 })
  operand_at (Some []) = Err Syntax
  operand_at (Some (t ∷ ts)) = operand_after (mode_in t) t ts

  -- A fault of the A-operand comes before one of the B-operand.
  unfoldable pub instruction_of_form : FormView → Result Instruction EvalFault
  instruction_of_form form = do
    a ← operand_at form.operands.a
    mapped (instruction_of_parts form a) (operand_at form.operands.b)

  -- The instruction that the tokens spell, or the first fault.
  unfoldable pub instruction_at : List Token → Result Instruction AsmKind
  instruction_at tokens = do
    form ← form_of source tokens
    with_fault Value (instruction_of_form form)
