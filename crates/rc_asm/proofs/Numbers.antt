-- The numbers of the instructions that lines give are below the core size.
use Rattle.std.proofs.Common.{◌≡◌, ℕ, ◌<◌, List, [], ◌∷◌, ◌++◌, length, refl, sym, subst, arith, Ok, Err, Some, None}
use Rattle.std.specs.Prelude.{ℤ, pos, negsuc, not, Result, Option, All}
use Rattle.std.proofs.lemmas.List.Elements.{All-nil, All-push}
use Rattle.rc_text.specs.declared.token.Token.{Token}
use Rattle.rc_text.specs.declared.fault.EvalFault.{EvalFault}
use Rattle.rc_text.specs.Values.{is_zero}
use Rattle.rc_instr.specs.Results.{mapped, and_then, with_fault, check}
use Rattle.rc_instr.specs.Warrior.{IsBelow}
use Rattle.rc_instr.specs.declared.instruction.Instruction.{Instruction}
use Rattle.rc_instr.specs.declared.instruction.Mode.{Mode}
use Rattle.rc_instr.specs.declared.instruction.Mode.TheVariants.{Direct}
use Rattle.rc_expand.specs.declared.line.Line.{Line}
use Rattle.rc_expand.specs.declared.line.LineWord.{LineWord}
use Rattle.rc_expand.specs.declared.line.LineWord.TheVariants.{Bare, Code, Org, End, Assert}
use Rattle.rc_asm.specs.declared.operand.Operand.{Operand}
use Rattle.rc_asm.specs.declared.fault.AsmKind.TheVariants.{Value, AssertFailed}
use Rattle.rc_asm.specs.Words.{mode_in}
use Rattle.rc_asm.specs.Names.{NameValues}
use Rattle.rc_asm.specs.Form.{form_of}
use Rattle.rc_asm.specs.Instructions.{core_number, operand, operand_after, operand_at, instruction_of_parts, instruction_of_form, instruction_at}
use Rattle.rc_asm.specs.Faults.{at_line}
use Rattle.rc_asm.specs.Lines.{ReadingView, nothing_read, with_instruction, with_org, with_end, line_value, after_word, after_line, after_lines}
use Rattle.rc_instr.proofs.Chains.{went_on, ok_of}

number_below : (m : ℕ) (z : ℤ) → 0 < m → core_number m z < m
unfolding core_number
number_below m (pos a) h = omega (arith, h)
number_below m (negsuc a) h = omega (arith, h)

-- a value that was changed was there
value_of : {A B E : Type 0} (f : A → B) (r : Result A E) (y : B) → mapped f r ≡ Ok y → (x : A) × (r ≡ Ok x) × (f x ≡ y)
value_of f (Ok x) y e = (x, refl, (cc))
value_of f (Err g) y e = absurd (cc)

module _ (source : List ℕ) (names : NameValues) (some : 0 < names.rules.core) where
  abbrev IsLow : Operand → Type 0
  IsLow o = o.number < names.rules.core

  value_low : (mode : Mode) (r : Result ℤ EvalFault) (o : Operand) → mapped (operand names.rules.core mode) r ≡ Ok o → IsLow o
  value_low mode r o e =
      let v = value_of (operand names.rules.core mode) r o e in
      subst (λ x. IsLow x) v.2 (number_below names.rules.core v.0 some)

  after_low : (address : ℕ) (m : Option Mode) (t : Token) (ts : List Token) (o : Operand) → operand_after source names address m t ts ≡ Ok o → IsLow o
  after_low address (Some mode) t ts o e = value_low mode _ o e
  after_low address None t ts o e = value_low _ _ o e

  operand_low : (address : ℕ) (part : Option (List Token)) (o : Operand) → operand_at source names address part ≡ Ok o → IsLow o
  unfolding operand_at
  operand_low address None o e = let z : Operand = record { mode = Direct; number = 0 } in let f : z ≡ o = cc in subst (λ x. IsLow x) f some
  operand_low address (Some []) o e = absurd (cc)
  operand_low address (Some (t ∷ ts)) o e = after_low address (mode_in t) t ts o e

  instruction_low : (address : ℕ) (ts : List Token) (i : Instruction) → instruction_at source names address ts ≡ Ok i → IsBelow names.rules.core i
  unfolding instruction_at instruction_of_form instruction_of_parts
  instruction_low address ts i e =
      let s = went_on (form_of source ts) (λ s. with_fault Value (instruction_of_form source names address s)) i e in
      let p = ok_of Value (instruction_of_form source names address s.0) i s.2 in
      let a = went_on (operand_at source names address s.0.operands.a) (λ a. mapped (instruction_of_parts s.0 a) (operand_at source names address s.0.operands.b)) i p in
      let b = value_of (instruction_of_parts s.0 a.0) (operand_at source names address s.0.operands.b) i a.2 in
      subst (λ x. IsBelow names.rules.core x) b.2 (record { a = operand_low address s.0.operands.a a.0 a.1; b = operand_low address s.0.operands.b b.0 b.1 })

  kept_code : (r s : ReadingView) (code : List Instruction) → r ≡ s → r.code ≡ code → All (IsBelow names.rules.core) code → All (IsBelow names.rules.core) s.code
  kept_code r s code e c h = subst (λ x. All (IsBelow names.rules.core) x.code) e (subst (λ x. All (IsBelow names.rules.core) x) (sym c) h)

  word_low : (w : LineWord) (ts : List Token) (r s : ReadingView) → after_word source names w ts r ≡ Ok s → All (IsBelow names.rules.core) r.code → All (IsBelow names.rules.core) s.code
  word_low Bare ts r s e h = kept_code r s r.code (cc) refl h
  word_low Code ts r s e h =
      let i = went_on (instruction_at source names (length r.code) ts) (λ i. Ok (with_instruction r i)) s e in
      kept_code (with_instruction r i.0) s (r.code ++ (i.0 ∷ [])) (let f = i.2 in cc) refl (All-push (IsBelow names.rules.core) r.code i.0 h (instruction_low (length r.code) ts i.0 i.1))
  word_low Org ts r s e h = let v = went_on (line_value source names (length r.code) ts) (λ v. Ok (with_org r v)) s e in kept_code (with_org r v.0) s r.code (let f = v.2 in cc) refl h
  word_low End [] r s e h = kept_code r s r.code (cc) refl h
  word_low End (t ∷ ts) r s e h = let v = went_on (line_value source names (length r.code) (t ∷ ts)) (λ v. Ok (with_end r v)) s e in kept_code (with_end r v.0) s r.code (let f = v.2 in cc) refl h
  word_low Assert ts r s e h =
      let v = went_on (line_value source names (length r.code) ts) (λ v. and_then (λ _. Ok r) (check (not (is_zero v)) AssertFailed)) s e in
      let c = went_on (check (not (is_zero v.0)) AssertFailed) (λ _. Ok r) s v.2 in
      kept_code r s r.code (let f = c.2 in cc) refl h

  lines_low : (lines : List Line) (r s : ReadingView) → after_lines source names lines r ≡ Ok s → All (IsBelow names.rules.core) r.code → All (IsBelow names.rules.core) s.code
  unfolding after_line
  lines_low [] r s e h = kept_code r s r.code (cc) refl h
  lines_low (l ∷ ls) r s e h =
      let x = went_on (after_line source names l r) (after_lines source names ls) s e in
      lines_low ls x.0 s x.2 (word_low l.word l.tokens r x.0 (ok_of (at_line l.number) (after_word source names l.word l.tokens r) x.0 x.1) h)

-- all numbers are below the core size
pub numbers_below : (source : List ℕ) (names : NameValues) (lines : List Line) (r : ReadingView) → 0 < names.rules.core → after_lines source names lines nothing_read ≡ Ok r → All (IsBelow names.rules.core) r.code
numbers_below source names lines r some e = lines_low source names some lines nothing_read r e (All-nil (IsBelow names.rules.core))
