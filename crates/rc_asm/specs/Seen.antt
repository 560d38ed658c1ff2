-- The values that contracts of private functions see of borrowed types.
use Rattle.std.specs.Prelude.{option_map}
use Rattle.rc_expand.specs.Names.{table_in, entry_of}
use Rattle.rc_asm.specs.declared.form.OperandTokens.{OperandTokens}
use Rattle.rc_asm.specs.declared.form.Form.{Form}
use Rattle.rc_asm.specs.declared.scope.Context.{Context}
use Rattle.rc_asm.specs.declared.reading.Reading.{Reading}
use Rattle.rc_asm.specs.Names.{NameValues}
use Rattle.rc_asm.specs.Lines.{ReadingView}
use Rattle.rc_asm.specs.Form.{OperandTokensView, operand_tokens, FormView, form}

abbrev pub seen_operands : OperandTokens → OperandTokensView
seen_operands operands = operand_tokens (option_map (λ p. p.now) operands.a) (option_map (λ p. p.now) operands.b)

abbrev pub seen_form : Form → FormView
seen_form f = form f.opcode f.modifier (seen_operands f.operands)

abbrev pub seen_names : Context → NameValues
seen_names context = record { constants = table_in context.given.now.constants.now; rules = context.given.now.rules.now; address = entry_of context.labels.now }

abbrev pub seen_reading : Reading → ReadingView
seen_reading r = record { code = r.code.items; starts = r.starts }
