-- What a text assembles to: a warrior, or the first fault with its line.
use Rattle.std.specs.Prelude.{◌≡◌, ℕ, nat_le, ℤ, pos, negsuc, List, length, Option, Result, Ok}
use Rattle.std.specs.Result.{result_ok}
use Rattle.rc_instr.specs.Results.{with_fault, ◌>>=◌, check}
use Rattle.rc_instr.specs.Rules.{RulesView}
use Rattle.rc_instr.specs.Warrior.{WarriorView, warrior_view}
use Rattle.rc_instr.specs.Checks.{warrior_of}
use Rattle.rc_instr.specs.declared.instruction.Instruction.{Instruction}
use Rattle.rc_expand.specs.declared.fault.ExpandFault.{ExpandFault}
use Rattle.rc_expand.specs.declared.fault.ExpandKind.{ExpandKind}
use Rattle.rc_expand.specs.declared.fault.ExpandKind.TheVariants.{OutOfMemory as NoMemory}
use Rattle.rc_expand.specs.declared.line.Line.{Line}
use Rattle.rc_expand.specs.Names.{Table}
use Rattle.rc_expand.specs.Expansion.{expansion_of}
use Rattle.rc_asm.specs.declared.fault.AsmKind.{AsmKind}
use Rattle.rc_asm.specs.declared.fault.AsmKind.TheVariants.{Expand, Warrior, TextTooLong, OutOfMemory}
use Rattle.rc_asm.specs.declared.fault.AsmFault.{AsmFault}
use Rattle.rc_asm.specs.Limits.{MOST_BYTES}
use Rattle.rc_asm.specs.Faults.{at_line, forms_check}
use Rattle.rc_asm.specs.Names.{NameValues, names_of}
use Rattle.rc_asm.specs.Lines.{ReadingView, nothing_read, after_lines, start_value}

-- The index of the instruction where `code` starts. A value below 0 becomes the length of the code,
-- which is no index of an instruction.
abbrev pub start_index : List Instruction → ℤ → ℕ
start_index code (pos n) = n
start_index code (negsuc n) = length code

-- The warrior of what the lines gave, if it is one under the rules.
abbrev pub warrior_of_reading : RulesView → ReadingView → Result WarriorView AsmFault
warrior_of_reading rules r =
    with_fault (λ e. at_line 0 (Warrior e)) (warrior_of rules (warrior_view r.code (start_index r.code (start_value r.starts))))

-- The warrior of the lines, or the first fault of their values, which a malformed line has too.
abbrev pub warrior_of_lines : List ℕ → NameValues → List Line → Result WarriorView AsmFault
warrior_of_lines source names lines = after_lines source names lines nothing_read >>= warrior_of_reading names.rules

-- The warrior of an expanded text. All forms are checked before the first value.
abbrev pub outcome_of_lines : List ℕ → NameValues → List Line → Result WarriorView AsmFault
outcome_of_lines source names lines = do
  _ ← forms_check source lines
  warrior_of_lines source names lines

-- `Expand` never has out of memory in it.
abbrev pub expand_kind : ExpandKind → AsmKind
expand_kind NoMemory = OutOfMemory
expand_kind kind = Expand kind

abbrev pub expand_fault : ExpandFault → AsmFault
expand_fault e = at_line e.line (expand_kind e.kind)

-- The warrior of a text, or its first fault.
unfoldable pub outcome_of : List ℕ → Table → RulesView → Result WarriorView AsmFault
outcome_of source constants rules = do
  _ ← check (nat_le (length source) MOST_BYTES) (at_line 0 TextTooLong)
  lines ← with_fault expand_fault (expansion_of source constants rules)
  outcome_of_lines source (names_of source constants rules lines) lines

-- The text assembles to this warrior.
abbrev pub Assembles : List ℕ → Table → RulesView → WarriorView → Type 0
Assembles source constants rules warrior = outcome_of source constants rules ≡ Ok warrior

-- The warrior to which the text assembles.
unfoldable pub text_warrior : List ℕ → Table → RulesView → Option WarriorView
text_warrior source constants rules = result_ok (outcome_of source constants rules)
