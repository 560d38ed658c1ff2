-- What a load file means under rules: its warrior, or the first fault.
use Rattle.std.specs.Prelude.{◌≡◌, ℕ, zero, suc, ◌+◌, List, [], ◌∷◌, length, Result, Ok, Err}
use Rattle.std.specs.Option.{ok_or, option_map, unwrap_or}
use Rattle.rc_instr.specs.Results.{with_fault, ◌>>=◌}
use Rattle.rc_instr.specs.Rules.{RulesView}
use Rattle.rc_instr.specs.Warrior.{WarriorView, warrior_view}
use Rattle.rc_instr.specs.Checks.{warrior_of}
use Rattle.rc_instr.specs.LoadReaders.{line_at, start_at}
use Rattle.rc_instr.specs.declared.instruction.Instruction.{Instruction}
use Rattle.rc_instr.specs.declared.loadfile.fault.LoadFault.{LoadFault}
use Rattle.rc_instr.specs.declared.loadfile.fault.LoadFault.TheVariants.{Malformed, Warrior, OutOfMemory}

-- An allocation failed.
abbrev pub IsOutOfMemory : LoadFault → Type 0
IsOutOfMemory fault = fault ≡ OutOfMemory

-- Puts the instruction of a line before those of the lines after it.
abbrev pub with_line : Instruction → List Instruction × List ℕ → List Instruction × List ℕ
with_line i read = (i ∷ read.0, read.1)

-- Reads lines of code at the front, at most `most` of them: gives their instructions, and the bytes
-- after them.
abbrev pub lines_from : (m most : ℕ) → List ℕ → List Instruction × List ℕ
lines_from m zero bytes = ([], bytes)
lines_from m (suc most) bytes = unwrap_or (option_map (λ line. with_line line.0 (lines_from m most line.1)) (line_at m bytes)) ([], bytes)

-- Reads all lines of code at the front. A line has a byte at least, so there are no more lines than
-- bytes.
unfoldable pub lines_at : ℕ → List ℕ → List Instruction × List ℕ
lines_at m bytes = lines_from m (length bytes) bytes

-- The instructions, if nothing comes after their lines. Otherwise the line after them is malformed.
-- The first line of code is line 2.
abbrev pub only_lines : List Instruction → List ℕ → Result (List Instruction) LoadFault
only_lines code [] = Ok code
only_lines code (b ∷ rest) = Err (Malformed (length code + 2))

-- The instructions of bytes that are lines of code and nothing else.
unfoldable pub code_of : ℕ → List ℕ → Result (List Instruction) LoadFault
code_of m bytes = let read = lines_at m bytes in only_lines read.0 read.1

-- The warrior of a load file. Its lines are read in order, and then it is checked.
unfoldable pub load_meaning : RulesView → List ℕ → Result WarriorView LoadFault
load_meaning rules bytes = do
  start ← ok_or (start_at bytes) (Malformed 1)
  code ← code_of rules.core start.1
  with_fault Warrior (warrior_of rules (warrior_view code start.0))
