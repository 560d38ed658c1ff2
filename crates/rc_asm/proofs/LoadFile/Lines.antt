-- The lines of a load file make its warrior.
use Rattle.std.proofs.Common.{◌≡◌, ℕ, ◌≤◌, List, [], ◌∷◌, ◌++◌, length, refl, sym, ◌∙◌, ap, append_assoc, append-nil}
use Rattle.std.specs.Prelude.{pos, All, Ok}
use Rattle.std.proofs.lemmas.List.Elements.{All-head, All-tail}
use Rattle.rc_text.specs.Symbols.{name_of, symbol_of_kind}
use Rattle.rc_text.specs.Reading.{evaluation_of}
use Rattle.rc_instr.specs.declared.instruction.Instruction.{Instruction}
use Rattle.rc_instr.specs.Warrior.{IsBelow, WarriorView, IsWarrior, Fits}
use Rattle.rc_instr.proofs.CheckSteps.{warrior_passes}
use Rattle.rc_asm.specs.declared.scope.LabelsAs.TheVariants.{Addresses}
use Rattle.rc_asm.specs.Names.{NameValues, stands_for, value_at}
use Rattle.rc_asm.specs.Lines.{ReadingView, nothing_read, with_instruction, with_org, after_line, after_lines}
use Rattle.rc_asm.specs.Assembly.{warrior_of_lines, outcome_of_lines}
use Rattle.rc_asm.proofs.Outcomes.{lines_make}
use Rattle.rc_asm.proofs.LoadFile.Printed.{Row, Opening, Printed, ArePrinted, IsStart, IsPrint, code_lines, printed_lines}
use Rattle.rc_asm.proofs.LoadFile.Instructions.{instruction_there, plain_value}

module _ (source : List ℕ) (names : NameValues) where
  -- more code
  abbrev with_code : ReadingView → List Instruction → ReadingView
  with_code r is = record { code = r.code ++ is; starts = r.starts }

  -- the rows' lines give the instructions
  code_there : names.rules.core ≤ 65535 → (is : List Instruction) (rs : List Row) (r : ReadingView) → All (IsBelow names.rules.core) is → ArePrinted source names.rules.core is rs
      → after_lines source names (code_lines rs) r ≡ Ok (with_code r is)
  unfolding after_line
  code_there small [] [] r b p = ap (λ c. Ok (record { code = c; starts = r.starts })) (sym (append-nil r.code))
  code_there small [] (row ∷ rs) r b p = absurd p
  code_there small (i ∷ is) [] r b p = absurd p
  code_there small (i ∷ is) (row ∷ rs) r b p =
      let low : IsBelow names.rules.core i = All-head (IsBelow names.rules.core) i is b in
      rw (instruction_there source names (length r.code) i row p.0 small low.a low.b) (
      code_there small is rs (with_instruction r i) (All-tail (IsBelow names.rules.core) i is b) p.1
      ∙ ap (λ c. Ok (record { code = c; starts = r.starts })) (append_assoc r.code (i ∷ []) is)
      )

  -- the value after ORG is the start
  start_number : (start : ℕ) (o : Opening) → IsStart source start o → value_at source names 0 Addresses (o.number ∷ []) ≡ Ok (pos start)
  start_number start o h = ap (λ k. evaluation_of (stands_for names 0 Addresses) (symbol_of_kind k (name_of source o.number) ∷ [])) h.number ∙ plain_value (stands_for names 0 Addresses) start

  -- the lines of a print make the warrior
  pub made_of_printed : (w : WarriorView) (p : Printed) → names.rules.core ≤ 65535 → IsWarrior w → Fits names.rules w → IsPrint source names.rules.core w p → outcome_of_lines source names (printed_lines p) ≡ Ok w
  unfolding after_line
  made_of_printed w p small g f h =
      let made : warrior_of_lines source names (printed_lines p) ≡ Ok w = rw (
        start_number w.start p.opening h.start,
        code_there small w.code p.rows (with_org nothing_read (pos w.start)) f.numbers h.code,
        warrior_passes names.rules w g f,
      ) refl in
      lines_make source names (printed_lines p) w made
