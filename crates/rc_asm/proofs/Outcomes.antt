-- What lines give, and the warrior of a text.
use Rattle.std.proofs.Common.{◌≡◌, ℕ, ◌<◌, ◌≤◌, ◌-◌, ◌^◌, Bool, true, false, List, [], ◌∷◌, length, refl, sym, ◌∙◌, ap, subst, arith, inl, inr, Some, Ok, Err}
use Rattle.std.specs.Prelude.{◌↔◌, ◌⊎◌, ℤ, pos, negsuc, nat_le, Result, Option}
use Rattle.std.specs.Result.{result_ok}
use Rattle.std.proofs.lemmas.Bool.{le-ltb, cases_lt}
use Rattle.rc_text.specs.declared.token.Token.{Token}
use Rattle.rc_text.specs.declared.fault.EvalFault.TheVariants.{Syntax}
use Rattle.rc_text.specs.Reading.{before_operand}
use Rattle.rc_instr.specs.Results.{mapped, and_then, with_fault, check}
use Rattle.rc_instr.specs.Rules.{RulesView, IsRules}
use Rattle.rc_instr.specs.Warrior.{WarriorView, warrior_view, IsWarrior, Fits}
use Rattle.rc_instr.specs.Checks.{warrior_of}
use Rattle.rc_instr.proofs.Chains.{went_on, ok_of}
use Rattle.rc_instr.proofs.CheckSteps.{at_most, warrior_fits}
use Rattle.rc_instr.specs.declared.instruction.Instruction.{Instruction}
use Rattle.rc_expand.specs.declared.line.Line.{Line}
use Rattle.rc_expand.specs.declared.line.LineWord.{LineWord}
use Rattle.rc_expand.specs.declared.line.LineWord.TheVariants.{Bare, Code, Org, End, Assert}
use Rattle.rc_expand.specs.Names.{Table, entry_of}
use Rattle.rc_expand.specs.Expansion.{expansion_of}
use Rattle.rc_asm.specs.declared.fault.AsmKind.TheVariants.{Value, Warrior, TextTooLong}
use Rattle.rc_asm.specs.declared.fault.AsmFault.{AsmFault}
use Rattle.rc_asm.specs.Limits.{MOST_BYTES}
use Rattle.rc_asm.specs.declared.scope.LabelsAs.TheVariants.{Addresses}
use Rattle.rc_asm.specs.Names.{NameValues, Labels, Agree, labels_of, names_of, value_at}
use Rattle.rc_asm.specs.Form.{form_of}
use Rattle.rc_asm.specs.Instructions.{instruction_of_form, instruction_at}
use Rattle.rc_asm.specs.Faults.{at_line, form_check, forms_check}
use Rattle.rc_asm.specs.Lines.{ReadingView, nothing_read, line_value, after_word, after_line, after_lines, start_value}
use Rattle.rc_asm.specs.Assembly.{start_index, warrior_of_reading, warrior_of_lines, outcome_of_lines, expand_fault, outcome_of, Assembles, text_warrior}

-- ---- forms

module _ (source : List ℕ) (names : NameValues) where
  no_value : (address : ℕ) → value_at source names address Addresses [] ≡ Err Syntax
  unfolding before_operand
  no_value address = refl

  -- a line that gives something is well formed
  form_word : (w : LineWord) (ts : List Token) (r s : ReadingView) → after_word source names w ts r ≡ Ok s → form_check source w ts ≡ Ok tt
  unfolding instruction_at
  form_word Code ts r s e =
      let i = went_on (instruction_at source names (length r.code) ts) _ s e in
      let p = went_on (form_of source ts) (λ x. with_fault Value (instruction_of_form source names (length r.code) x)) i.0 i.1 in
      ap (mapped (λ x. tt)) p.1
  form_word Org [] r s e =
      let v = went_on (line_value source names (length r.code) []) _ s e in
      let n = sym v.1 ∙ ap (with_fault Value) (no_value (length r.code)) in
      absurd (cc)
  form_word Org (t ∷ ts) r s e = refl
  form_word End ts r s e = refl
  form_word Assert ts r s e = refl
  form_word Bare ts r s e = refl

  -- lines that give something are well formed
  formed : (lines : List Line) (r s : ReadingView) → after_lines source names lines r ≡ Ok s → forms_check source lines ≡ Ok tt
  unfolding after_line
  formed [] r s e = refl
  formed (l ∷ ls) r s e =
      let x = went_on (after_line source names l r) _ s e in
      let f = form_word l.word l.tokens r x.0 (ok_of (at_line l.number) (after_word source names l.word l.tokens r) x.0 x.1) in
      rw f (formed ls x.0 s x.2)

  -- lines that make a warrior are well formed, and make it
  pub lines_make : (lines : List Line) (w : WarriorView) → warrior_of_lines source names lines ≡ Ok w → outcome_of_lines source names lines ≡ Ok w
  lines_make lines w e =
      let r = went_on (after_lines source names lines nothing_read) _ w e in
      ap (and_then (λ _. warrior_of_lines source names lines)) (formed lines nothing_read r.0 r.1) ∙ e

-- ---- the start

late : (code : List Instruction) (a b : ℕ) (rules : RulesView) → IsRules rules → (length code ≤ 200 → length code ≤ a) → (length code ≤ 200 → length code ≤ b)
    → warrior_of rules (warrior_view code a) ≡ warrior_of rules (warrior_view code b)
unfolding warrior_of
late [] a b rules k h g = refl
late (i ∷ is) a b rules k h g = by_length (nat_le (length (i ∷ is)) rules.length) refl where
  by_length : (t : Bool) → nat_le (length (i ∷ is)) rules.length ≡ t → warrior_of rules (warrior_view (i ∷ is) a) ≡ warrior_of rules (warrior_view (i ∷ is) b)
  by_length false e = rw e refl
  by_length true e =
      let s = at_most (length (i ∷ is)) rules.length e in
      let m : length (i ∷ is) ≤ 200 = omega (arith, s, k.length.1) in
      rw (e, le-ltb a (length (i ∷ is)) (h m), le-ltb b (length (i ∷ is)) (g m)) refl

-- a small number is the start exactly if it is the value of the start
abbrev pub IsNumberOf : ℤ → ℕ → Type 0
IsNumberOf z n = (k : ℕ) → k < 2 ^ 32 - 1 → (z ≡ pos k) ↔ (n ≡ k)

-- the number stands for the start
pub same_start : (rules : RulesView) (code : List Instruction) (z : ℤ) (n : ℕ) → IsRules rules → IsNumberOf z n
    → warrior_of rules (warrior_view code n) ≡ warrior_of rules (warrior_view code (start_index code z))
same_start rules code (pos k) n r h = by_size (cases_lt k (2 ^ 32 - 1)) (cases_lt n (2 ^ 32 - 1)) where
  by_size : (k < 2 ^ 32 - 1) ⊎ (2 ^ 32 - 1 ≤ k) → (n < 2 ^ 32 - 1) ⊎ (2 ^ 32 - 1 ≤ n) → warrior_of rules (warrior_view code n) ≡ warrior_of rules (warrior_view code k)
  by_size (inl l) m = ap (λ x. warrior_of rules (warrior_view code x)) ((h k l).0 refl)
  by_size (inr l) (inl m) = absurd (let q : pos k ≡ pos n = (h n m).1 refl in let s : k ≡ n = cc in omega (arith, l, m, s))
  by_size (inr l) (inr m) = late code n k rules r (λ s. omega (arith, s, m)) (λ s. omega (arith, s, l))
same_start rules code (negsuc j) n r h = by_size (cases_lt n (2 ^ 32 - 1)) where
  by_size : (n < 2 ^ 32 - 1) ⊎ (2 ^ 32 - 1 ≤ n) → warrior_of rules (warrior_view code n) ≡ warrior_of rules (warrior_view code (length code))
  by_size (inl m) = absurd (let q : negsuc j ≡ pos n = (h n m).1 refl in cc)
  by_size (inr m) = late code n (length code) rules r (λ s. omega (arith, s, m)) (λ s. omega arith)

-- ---- names

abbrev pub names_with : Table → RulesView → (List ℕ → Option ℕ) → NameValues
names_with constants rules address = record { constants = constants; rules = rules; address = address }

-- names with equal labels are equal
pub same_names : (source : List ℕ) (constants : Table) (rules : RulesView) (lines : List Line) (labels : Labels) → Agree labels (labels_of source lines)
    → names_with constants rules (entry_of labels) ≡ names_of source constants rules lines
same_names source constants rules lines labels h = λ x. record { constants = constants; rules = rules; address = λ name. h name x }

-- ---- the text

module _ (source : List ℕ) (constants : Table) (rules : RulesView) where
  pub computed : (w : WarriorView) → Assembles source constants rules w → text_warrior source constants rules ≡ Some w
  unfolding text_warrior
  computed w e = ap result_ok e

  ok_some : (r : Result WarriorView AsmFault) (w : WarriorView) → result_ok r ≡ Some w → r ≡ Ok w
  ok_some (Ok v) w e = let q : v ≡ w = cc in ap Ok q
  ok_some (Err f) w e = absurd (cc)

  pub assembles : (w : WarriorView) → text_warrior source constants rules ≡ Some w → Assembles source constants rules w
  unfolding text_warrior
  assembles w e = ok_some (outcome_of source constants rules) w e

  -- at most one warrior
  pub one_warrior : (w v : WarriorView) → Assembles source constants rules w → Assembles source constants rules v → w ≡ v
  one_warrior w v a b = let q = sym a ∙ b in cc

  abbrev of_lines : List Line → Result WarriorView AsmFault
  of_lines lines = outcome_of_lines source (names_of source constants rules lines) lines

  -- the warrior of a text fits the rules
  pub text_fits : (w : WarriorView) → IsRules rules → Assembles source constants rules w → IsWarrior w × Fits rules w
  unfolding outcome_of
  text_fits w k e =
      let c = went_on (check (nat_le (length source) MOST_BYTES) (at_line 0 TextTooLong)) (λ _. and_then of_lines (with_fault expand_fault (expansion_of source constants rules))) w e in
      let l = went_on (with_fault expand_fault (expansion_of source constants rules)) of_lines w c.2 in
      let names = names_of source constants rules l.0 in
      let f = went_on (forms_check source l.0) (λ _. warrior_of_lines source names l.0) w l.2 in
      let r = went_on (after_lines source names l.0 nothing_read) (warrior_of_reading rules) w f.2 in
      let v = warrior_view r.0.code (start_index r.0.code (start_value r.0.starts)) in
      let p = warrior_fits rules v w k (ok_of (λ e. at_line 0 (Warrior e)) (warrior_of rules v) w r.2) in
      (subst (λ x. IsWarrior x) (sym p.0) p.1, subst (λ x. Fits rules x) (sym p.0) p.2)
