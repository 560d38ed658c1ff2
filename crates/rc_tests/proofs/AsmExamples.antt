-- Examples of rc_asm: what concrete texts assemble to, computed by the definitions.
use Rattle.std.specs.Prelude.{◌≡◌, refl, ℕ, ℤ, pos, List, [], ◌∷◌, ◌++◌, codes, Option, Some, option_map, Result}
use Rattle.std.specs.Result.{result_ok, result_err}
use Rattle.rc_text.specs.Reading.{before_operand, after_operand}
use Rattle.rc_instr.specs.Rules.{RulesView, rules_view}
use Rattle.rc_instr.specs.DefaultModifier.{default_modifier_of}
use Rattle.rc_instr.specs.declared.instruction.Instruction.{Instruction}
use Rattle.rc_instr.specs.declared.instruction.Opcode.{Opcode}
use Rattle.rc_instr.specs.declared.instruction.Opcode.TheVariants as op
use Rattle.rc_instr.specs.declared.instruction.Modifier.{Modifier}
use Rattle.rc_instr.specs.declared.instruction.Modifier.TheVariants as mod'
use Rattle.rc_instr.specs.declared.instruction.Mode.{Mode}
use Rattle.rc_instr.specs.declared.instruction.Mode.TheVariants as mode
use Rattle.rc_text.specs.declared.fault.EvalFault.TheVariants.{UnknownName}
use Rattle.rc_text.specs.NameClasses.{is_opcode_word}
use Rattle.rc_expand.specs.Names.{given_names, is_taken}
use Rattle.rc_expand.specs.Read.Lines.{is_unreserved_name, is_opcode, word_of_name, raw_line_of}
use Rattle.rc_expand.specs.Replace.{replaced_tokens}
use Rattle.rc_expand.specs.Unroll.{unrolled}
use Rattle.rc_expand.specs.Unroll.Copies.{copied_line}
use Rattle.rc_expand.specs.Unroll.Openings.{count_of, opening}
use Rattle.rc_expand.specs.Read.{equs_of, first_pass}
use Rattle.rc_expand.specs.Replace.Lines.{line_of, replaced}
use Rattle.rc_expand.specs.Expansion.{expansion_of}
use Rattle.rc_asm.specs.declared.fault.AsmKind.TheVariants.{Value, MissingOperand, ExtraText}
use Rattle.rc_asm.specs.declared.fault.AsmFault.{AsmFault}
use Rattle.rc_asm.specs.Words.{opcode_in, modifier_in}
use Rattle.rc_asm.specs.Form.{parts, with_operands, with_modifier, after_opcode, form_of}
use Rattle.rc_asm.specs.Names.{stands_for, names_of}
use Rattle.rc_asm.specs.Instructions.{core_number, operand_at, instruction_of_parts, instruction_of_form, instruction_at}
use Rattle.rc_asm.specs.Faults.{at_line}
use Rattle.rc_asm.specs.Lines.{ReadingView, nothing_read, start_value, after_line, after_lines}
use Rattle.rc_asm.specs.Assembly.{expand_fault, outcome_of}
use Rattle.rc_instr.specs.Results.{with_fault, ◌>>=◌}
use Rattle.rc_instr.specs.Checks.{warrior_of}

-- The lines, each with a line feed.
abbrev text_of : List (List ℕ) → List ℕ
text_of [] = []
text_of (l ∷ ls) = l ++ (10 ∷ text_of ls)

-- What the lines of a text give.
abbrev reading_of : RulesView → List (List ℕ) → Result ReadingView AsmFault
reading_of rules ls = do
  lines ← with_fault expand_fault (expansion_of (text_of ls) [] rules)
  after_lines (text_of ls) (names_of (text_of ls) [] rules lines) lines nothing_read

-- The instructions and the start.
abbrev shown : RulesView → List (List ℕ) → Option (List Instruction × ℤ)
shown rules ls = option_map (λ r. (r.code, start_value r.starts)) (result_ok (reading_of rules ls))

abbrev code_of : List (List ℕ) → Option (List Instruction)
code_of ls = option_map (λ s. s.0) (shown (rules_view 16 20 4 4 4) ls)

abbrev fault_of : List (List ℕ) → Option AsmFault
fault_of ls = result_err (outcome_of (text_of ls) [] (rules_view 16 20 4 4 4))

abbrev i : Opcode → Modifier → Mode → ℕ → Mode → ℕ → Instruction
i o m a x b y = record { opcode = o; modifier = m; a_mode = a; a_number = x; b_mode = b; b_number = y }

-- An EQU name stands for tokens, not for a value; the one operand of DAT is its B-operand.
with_equ : shown (rules_view 16 20 4 4 4) (codes "s EQU 2+3" ∷ codes "DAT #0, #s*2" ∷ []) ≡ Some (i op.Dat mod'.F mode.Immediate 0 mode.Immediate 8 ∷ [], pos 0)
unfolding after_line outcome_of warrior_of opcode_in modifier_in parts with_operands with_modifier after_opcode form_of stands_for given_names core_number operand_at instruction_of_parts instruction_of_form instruction_at default_modifier_of expansion_of first_pass equs_of line_of replaced unrolled is_taken count_of opening copied_line replaced_tokens is_unreserved_name is_opcode word_of_name raw_line_of is_opcode_word before_operand after_operand
with_equ = refl

-- Division rounds toward zero; a number is taken modulo the core size.
negative_number : code_of (codes "DAT #-7/2" ∷ []) ≡ Some (i op.Dat mod'.F mode.Direct 0 mode.Immediate 13 ∷ [])
unfolding after_line outcome_of warrior_of opcode_in modifier_in parts with_operands with_modifier after_opcode form_of stands_for given_names core_number operand_at instruction_of_parts instruction_of_form instruction_at default_modifier_of expansion_of first_pass equs_of line_of replaced unrolled is_taken count_of opening copied_line replaced_tokens is_unreserved_name is_opcode word_of_name raw_line_of is_opcode_word before_operand after_operand
negative_number = refl

-- A name with a joined counter can be a label; in an operand a label is a distance.
joined_names : code_of (codes "i FOR 2" ∷ codes "x&i DAT #i" ∷ codes "ROF" ∷ codes "JMP x01" ∷ [])
    ≡ Some (i op.Dat mod'.F mode.Direct 0 mode.Immediate 1 ∷ i op.Dat mod'.F mode.Direct 0 mode.Immediate 2 ∷ i op.Jmp mod'.B mode.Direct 14 mode.Direct 0 ∷ [])
unfolding after_line outcome_of warrior_of opcode_in modifier_in parts with_operands with_modifier after_opcode form_of stands_for given_names core_number operand_at instruction_of_parts instruction_of_form instruction_at default_modifier_of expansion_of first_pass equs_of line_of replaced unrolled is_taken count_of opening copied_line replaced_tokens is_unreserved_name is_opcode word_of_name raw_line_of is_opcode_word before_operand after_operand
joined_names = refl

-- Default modifiers, and CMP as SEQ.
default_modifiers : code_of (codes "mov #1, 2" ∷ codes "add 1, #2" ∷ codes "cmp 1, 2" ∷ codes "slt #1, 2" ∷ [])
    ≡ Some (i op.Mov mod'.AB mode.Immediate 1 mode.Direct 2 ∷ i op.Add mod'.B mode.Direct 1 mode.Immediate 2 ∷ i op.Seq mod'.I mode.Direct 1 mode.Direct 2 ∷ i op.Slt mod'.AB mode.Immediate 1 mode.Direct 2 ∷ [])
unfolding after_line outcome_of warrior_of opcode_in modifier_in parts with_operands with_modifier after_opcode form_of stands_for given_names core_number operand_at instruction_of_parts instruction_of_form instruction_at default_modifier_of expansion_of first_pass equs_of line_of replaced unrolled is_taken count_of opening copied_line replaced_tokens is_unreserved_name is_opcode word_of_name raw_line_of is_opcode_word before_operand after_operand
default_modifiers = refl

-- Precedence, comparison and negation.
expressions : code_of (codes "DAT 2+3*4, (1<2)+!0" ∷ []) ≡ Some (i op.Dat mod'.F mode.Direct 14 mode.Direct 2 ∷ [])
unfolding after_line outcome_of warrior_of opcode_in modifier_in parts with_operands with_modifier after_opcode form_of stands_for given_names core_number operand_at instruction_of_parts instruction_of_form instruction_at default_modifier_of expansion_of first_pass equs_of line_of replaced unrolled is_taken count_of opening copied_line replaced_tokens is_unreserved_name is_opcode word_of_name raw_line_of is_opcode_word before_operand after_operand
expressions = refl

-- A warrior with a header, an assertion, EQU, labels, ORG and END.
dwarf : shown (rules_view 8000 80000 8000 100 100) (codes "From: a mail header" ∷ codes ";redcode-94" ∷ codes ";assert CORESIZE % 4 == 0" ∷ codes "step EQU 4" ∷ codes "  ORG start" ∷ codes "bomb DAT #0, #0" ∷ codes "start ADD #step, bomb" ∷ codes "  MOV bomb, @bomb" ∷ codes "  JMP start" ∷ codes "  END" ∷ [])
    ≡ Some (
      i op.Dat mod'.F mode.Immediate 0 mode.Immediate 0 ∷ i op.Add mod'.AB mode.Immediate 4 mode.Direct 7999 ∷ i op.Mov mod'.I mode.Direct 7998 mode.BIndirect 7998 ∷ i op.Jmp mod'.B mode.Direct 7998 mode.Direct 0 ∷ [],
      pos 1,
    )
unfolding after_line outcome_of warrior_of opcode_in modifier_in parts with_operands with_modifier after_opcode form_of stands_for given_names core_number operand_at instruction_of_parts instruction_of_form instruction_at default_modifier_of expansion_of first_pass equs_of line_of replaced unrolled is_taken count_of opening copied_line replaced_tokens is_unreserved_name is_opcode word_of_name raw_line_of is_opcode_word before_operand after_operand
dwarf = refl

-- A malformed line is reported before an earlier line whose expression has no value.
form_before_value : fault_of (codes "DAT x" ∷ codes "MOV 1" ∷ []) ≡ Some (at_line 2 MissingOperand)
unfolding after_line outcome_of warrior_of opcode_in modifier_in parts with_operands with_modifier after_opcode form_of stands_for given_names core_number operand_at instruction_of_parts instruction_of_form instruction_at default_modifier_of expansion_of first_pass equs_of line_of replaced unrolled is_taken count_of opening copied_line replaced_tokens is_unreserved_name is_opcode word_of_name raw_line_of is_opcode_word before_operand after_operand
form_before_value = refl

-- A second comma is reported before a missing operand.
two_commas : fault_of (codes "MOV ,," ∷ []) ≡ Some (at_line 1 ExtraText)
unfolding after_line outcome_of warrior_of opcode_in modifier_in parts with_operands with_modifier after_opcode form_of stands_for given_names core_number operand_at instruction_of_parts instruction_of_form instruction_at default_modifier_of expansion_of first_pass equs_of line_of replaced unrolled is_taken count_of opening copied_line replaced_tokens is_unreserved_name is_opcode word_of_name raw_line_of is_opcode_word before_operand after_operand
two_commas = refl

-- A name without a value.
unknown_name : fault_of (codes "NOP" ∷ codes "DAT x" ∷ []) ≡ Some (at_line 2 (Value UnknownName))
unfolding after_line outcome_of warrior_of opcode_in modifier_in parts with_operands with_modifier after_opcode form_of stands_for given_names core_number operand_at instruction_of_parts instruction_of_form instruction_at default_modifier_of expansion_of first_pass equs_of line_of replaced unrolled is_taken count_of opening copied_line replaced_tokens is_unreserved_name is_opcode word_of_name raw_line_of is_opcode_word before_operand after_operand
unknown_name = refl
