-- What the lines of an expanded text give, one after the other: instructions and the start.
-- Instructions and ORG are from the 1994 draft, `;assert` and END with a start from pMARS.
use Rattle.std.specs.Prelude.{ℕ, not, ℤ, pos, List, [], ◌∷◌, ◌++◌, length, Some, None, unwrap_or, Result, Ok}
use Rattle.std.specs.Option.{option_or}
use Rattle.rc_text.specs.declared.token.Token.{Token}
use Rattle.rc_text.specs.Values.{is_zero}
use Rattle.rc_instr.specs.Results.{with_fault, ◌>>=◌, check}
use Rattle.rc_instr.specs.declared.instruction.Instruction.{Instruction}
use Rattle.rc_expand.specs.declared.line.LineWord.{LineWord}
use Rattle.rc_expand.specs.declared.line.LineWord.TheVariants.{Bare, Code, Org, End, Assert}
use Rattle.rc_expand.specs.declared.line.Line.{Line}
use Rattle.rc_asm.specs.declared.fault.AsmKind.{AsmKind}
use Rattle.rc_asm.specs.declared.fault.AsmKind.TheVariants.{Value, AssertFailed}
use Rattle.rc_asm.specs.declared.fault.AsmFault.{AsmFault}
use Rattle.rc_asm.specs.declared.starts.Starts.{Starts}
use Rattle.rc_asm.specs.Faults.{at_line}
use Rattle.rc_asm.specs.declared.scope.LabelsAs.TheVariants.{Addresses}
use Rattle.rc_asm.specs.Names.{NameValues, value_at}
use Rattle.rc_asm.specs.Instructions.{instruction_at}

abbrev pub no_starts : Starts
no_starts = record { org = None; end = None }

-- The value of the last ORG; without ORG, the value after END; without either, 0.
abbrev pub start_value : Starts → ℤ
start_value s = unwrap_or (option_or s.org s.end) (pos 0)

-- What the lines so far have given: instructions, and the values of the last ORG and of END.
pub record ReadingView : Type 0 where
  pub code : List Instruction
  pub starts : Starts

-- Before the first line.
abbrev pub nothing_read : ReadingView
nothing_read = record { code = []; starts = no_starts }

abbrev pub with_instruction : ReadingView → Instruction → ReadingView
with_instruction r i = record r { code = r.code ++ (i ∷ []) }

abbrev pub with_org : ReadingView → ℤ → ReadingView
with_org r v = record r { starts = record { org = Some v; end = r.starts.end } }

abbrev pub with_end : ReadingView → ℤ → ReadingView
with_end r v = record r { starts = record { org = r.starts.org; end = Some v } }

module _ (source : List ℕ) (names : NameValues) where
  -- The value of an expression in a line at `address`. A label stands for its address.
  abbrev pub line_value : (address : ℕ) → List Token → Result ℤ AsmKind
  line_value address ts = with_fault Value (value_at source names address Addresses ts)

  -- A line after those that gave `r`. The number of instructions before it is its address. A line
  -- of code gives its instruction; ORG needs an expression and END may have one; an assertion needs
  -- a value other than 0.
  abbrev pub after_word : LineWord → List Token → ReadingView → Result ReadingView AsmKind
  after_word Bare ts r = Ok r
  after_word Code ts r = do
    i ← instruction_at source names (length r.code) ts
    Ok (with_instruction r i)
  after_word Org ts r = do
    v ← line_value (length r.code) ts
    Ok (with_org r v)
  after_word End [] r = Ok r
  after_word End (t ∷ ts) r = do
    v ← line_value (length r.code) (t ∷ ts)
    Ok (with_end r v)
  after_word Assert ts r = do
    v ← line_value (length r.code) ts
    _ ← check (not (is_zero v)) AssertFailed
    Ok r

  -- A line, whose fault is at the line.
  unfoldable pub after_line : Line → ReadingView → Result ReadingView AsmFault
  after_line l r = with_fault (at_line l.number) (after_word l.word l.tokens r)

  -- All lines in order, or the first fault.
  abbrev pub after_lines : List Line → ReadingView → Result ReadingView AsmFault
  after_lines [] r = Ok r
  after_lines (l ∷ ls) r = after_line l r >>= after_lines ls
