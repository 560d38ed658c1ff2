-- The tokens of a printed instruction spell it.
use Rattle.std.proofs.Common.{◌≡◌, ℕ, suc, ◌+◌, ◌^◌, ◌<◌, ◌≤◌, true, false, List, [], ◌∷◌, ◌++◌, Some, None, refl, ◌∙◌, ap, arith}
use Rattle.std.specs.Prelude.{ℤ, pos, negsuc, ◌%◌, ◌&&◌, Ok, if◌then◌else◌}
use Rattle.std.specs.Option.{ok_or}
use Rattle.std.specs.Int.{int_rem_euclid}
use Rattle.std.proofs.lemmas.Int.{int_rem_euclid_is, ints}
use Rattle.std.proofs.Math.Nat.{mod-eq_of_lt}
use Rattle.std.proofs.lemmas.Bool.{lt-ltb}
use Rattle.rc_text.specs.declared.token.Sign.TheVariants.{Minus}
use Rattle.rc_text.specs.declared.token.Kind.TheVariants.{Sign as SignOf}
use Rattle.rc_text.specs.declared.token.Token.{Token}
use Rattle.rc_text.specs.Values.{Meaning}
use Rattle.rc_text.specs.Reading.{evaluation_of, before_operand, after_operand}
use Rattle.rc_text.specs.Symbols.{Symbol, Decimal, Mark, symbol_of_kind, name_of, symbols_of}
use Rattle.rc_expand.specs.Read.Lines.{is_name_kind, is_dot, is_dot_kind, is_unjoined, bytes_of, into_first}
use Rattle.rc_instr.specs.Words.{opcode_text, modifier_text, opcode_named, modifier_named}
use Rattle.rc_instr.proofs.WordTable.{opcode_back, modifier_back}
use Rattle.rc_instr.specs.declared.instruction.Opcode.{Opcode}
use Rattle.rc_instr.specs.declared.instruction.Modifier.{Modifier}
use Rattle.rc_instr.specs.declared.instruction.Mode.{Mode}
use Rattle.rc_instr.specs.declared.instruction.Mode.TheVariants as mode
use Rattle.rc_instr.specs.declared.instruction.Instruction.{Instruction}
use Rattle.rc_asm.specs.declared.fault.AsmKind.TheVariants.{UnknownOpcode, Value}
use Rattle.rc_asm.specs.declared.operand.Operand.{Operand}
use Rattle.rc_instr.specs.Results.{mapped, and_then, with_fault}
use Rattle.rc_asm.specs.Words.{is_plain, opcode_in, modifier_in, mode_of, mode_of_kind, mode_in, is_comma, is_comma_kind}
use Rattle.rc_asm.specs.Form.{parts_from, parts, operand_tokens, operands_of, FormView, form, with_operands, with_modifier, after_opcode, form_of}
use Rattle.rc_asm.specs.declared.scope.LabelsAs.TheVariants.{Distances}
use Rattle.rc_asm.specs.Names.{NameValues, stands_for}
use Rattle.rc_asm.specs.Instructions.{natural, core_number, operand, operand_after, operand_at, instruction_of_parts, instruction_of_form, instruction_at}
use Rattle.rc_asm.proofs.LoadFile.Printed.{mode_sign, IsWord, AreNumber, Plain, Below, Row, a_tokens, b_tokens, row_tokens, IsPrinted}

-- ---- words

-- the sign of a mode means the mode
mode_back : (m : Mode) → mode_of (mode_sign m) ≡ Some m
mode_back mode.Immediate = refl
mode_back mode.Direct = refl
mode_back mode.AIndirect = refl
mode_back mode.BIndirect = refl
mode_back mode.APredecrement = refl
mode_back mode.BPredecrement = refl
mode_back mode.APostincrement = refl
mode_back mode.BPostincrement = refl

-- a word is a name without counters
word_plain : (source text : List ℕ) (t : Token) → IsWord source text t → is_plain t ≡ true
word_plain source text t w = (λ x. is_name_kind (w.kind x) && is_unjoined (w.joined x))

-- the token of an opcode's text names the opcode
opcode_there : (source : List ℕ) (t : Token) (o : Opcode) → IsWord source (opcode_text o) t → opcode_in source t ≡ Some o
unfolding opcode_in
opcode_there source t o w =
    ap (λ b. if b then opcode_named (bytes_of source t) else None) (word_plain source (opcode_text o) t w) ∙ ap opcode_named w.bytes ∙ opcode_back o

-- the token of a modifier's text names the modifier
modifier_there : (source : List ℕ) (t : Token) (m : Modifier) → IsWord source (modifier_text m) t → modifier_in source t ≡ Some m
unfolding modifier_in
modifier_there source t m w =
    ap (λ b. if b then modifier_named (bytes_of source t) else None) (word_plain source (modifier_text m) t w) ∙ ap modifier_named w.bytes ∙ modifier_back m

-- the token of a mode's sign means the mode
mode_there : (t : Token) (m : Mode) → t.kind ≡ SignOf (mode_sign m) → mode_in t ≡ Some m
mode_there t m k = ap mode_of_kind k ∙ mode_back m

-- ---- numbers

-- a number alone has its value
pub plain_value : (names : Meaning) (n : ℕ) → evaluation_of names (Decimal n ∷ []) ≡ Ok (pos n)
unfolding before_operand after_operand
plain_value names n = refl

-- a number after a minus sign has its negative value
minus_value : (names : Meaning) (n : ℕ) → n < 2 ^ 63 → evaluation_of names (Mark Minus ∷ Decimal (suc n) ∷ []) ≡ Ok (negsuc n)
unfolding before_operand after_operand
minus_value names n h = let e = lt-ltb n (2 ^ 63) h in rw e refl

-- a value below the core size is a number of the core
plain_number : (m n : ℕ) → n < m → core_number m (pos n) ≡ n
unfolding core_number
plain_number m n h =
    let e : int_rem_euclid (pos n) (pos m) ≡ pos (n % m) = int_rem_euclid_is (pos n) (pos m) m 0 n (omega arith) refl (omega (arith, ints)) in
    ap natural e ∙ mod-eq_of_lt h

-- a value below zero counts down from the core size
minus_number : (m n k : ℕ) → n < m → suc k + n ≡ m → core_number m (negsuc k) ≡ n
unfolding core_number
minus_number m n k h e =
    let r : int_rem_euclid (negsuc k) (pos m) ≡ pos (n % m) = int_rem_euclid_is (negsuc k) (pos m) m 1 n (omega arith) refl (omega (arith, ints)) in
    ap natural r ∙ mod-eq_of_lt h

-- ---- operands

-- an expression has a value that is this number of the core
record HasNumber (m n : ℕ) (names : Meaning) (symbols : List Symbol) : Type 0 where
  value : ℤ
  there : evaluation_of names symbols ≡ Ok value
  same : core_number m value ≡ n

-- the tokens of a number have it as their value
number_there : (source : List ℕ) (names : Meaning) (m n : ℕ) (ts : List Token) → n < m → m ≤ 65535 → AreNumber m n ts → HasNumber m n names (symbols_of source ts)
number_there source names m n ts h l (Plain t e) = record {
  value = pos n;
  there = ap (λ k. evaluation_of names (symbol_of_kind k (name_of source t) ∷ [])) e ∙ plain_value names n;
  same = plain_number m n h;
}
number_there source names m n ts h l (Below s t k e f g) = record {
  value = negsuc k;
  there = (λ x. evaluation_of names (symbol_of_kind (e x) (name_of source s) ∷ symbol_of_kind (f x) (name_of source t) ∷ [])) ∙ minus_value names k (omega (arith, g, l));
  same = minus_number m n k h g;
}

module _ (source : List ℕ) (names : NameValues) (address : ℕ) where
  -- a mode and a number are the operand that they print
  operand_there : (n : ℕ) (mode : Mode) (sign : Token) (ts : List Token) → n < names.rules.core → names.rules.core ≤ 65535 → sign.kind ≡ SignOf (mode_sign mode) → AreNumber names.rules.core n ts
      → operand_at source names address (Some (sign ∷ ts)) ≡ Ok (record { mode = mode; number = n })
  unfolding operand_at
  operand_there n mode sign ts h l k t =
      let v = number_there source (stands_for names address Distances) names.rules.core n ts h l t in
      ap (λ o. operand_after source names address o sign ts) (mode_there sign mode k)
      ∙ ap (mapped (operand names.rules.core mode)) v.there
      ∙ ap (λ x. Ok (record { mode = mode; number = x })) v.same

-- ---- the parts between commas

-- no token is a comma
abbrev HaveNoComma : List Token → Type 0
HaveNoComma [] = Unit {0}
HaveNoComma (t ∷ ts) = (is_comma t ≡ false) × HaveNoComma ts

-- tokens without a comma are one part
whole_part : (ts : List Token) → HaveNoComma ts → parts_from ts ≡ ts ∷ []
whole_part [] h = refl
whole_part (t ∷ ts) h = rw h.0 (ap (into_first t) (whole_part ts h.1))

-- the tokens before the first comma are the first part
first_part : (ts : List Token) (c : Token) (us : List Token) → HaveNoComma ts → is_comma c ≡ true → parts_from (ts ++ (c ∷ us)) ≡ ts ∷ parts_from us
first_part [] c us h k = rw k refl
first_part (t ∷ ts) c us h k = rw h.0 (ap (into_first t) (first_part ts c us h.1 k))

-- a comma is not a mode
mode_no_comma : (m : Mode) → is_comma_kind (SignOf (mode_sign m)) ≡ false
mode_no_comma mode.Immediate = refl
mode_no_comma mode.Direct = refl
mode_no_comma mode.AIndirect = refl
mode_no_comma mode.BIndirect = refl
mode_no_comma mode.APredecrement = refl
mode_no_comma mode.BPredecrement = refl
mode_no_comma mode.APostincrement = refl
mode_no_comma mode.BPostincrement = refl

-- the tokens of a number have no comma
number_no_comma : (m n : ℕ) (ts : List Token) → AreNumber m n ts → HaveNoComma ts
number_no_comma m n ts (Plain t e) = (ap is_comma_kind e, tt)
number_no_comma m n ts (Below s t k e f g) = (ap is_comma_kind e, (ap is_comma_kind f, tt))

-- the sign of a mode is not a comma
sign_no_comma : (m : Mode) (t : Token) → t.kind ≡ SignOf (mode_sign m) → is_comma t ≡ false
sign_no_comma m t e = ap is_comma_kind e ∙ mode_no_comma m

-- two operands with a comma between them are two parts
two_parts : (a : Token) (as' : List Token) (c : Token) (bs : List Token) → HaveNoComma (a ∷ as') → is_comma c ≡ true → HaveNoComma bs → parts ((a ∷ as') ++ (c ∷ bs)) ≡ (a ∷ as') ∷ bs ∷ []
unfolding parts
two_parts a as' c bs h k l = first_part (a ∷ as') c bs h k ∙ ap (λ ps. (a ∷ as') ∷ ps) (whole_part bs l)

module _ (source : List ℕ) (names : NameValues) (address : ℕ) (i : Instruction) (r : Row) (p : IsPrinted source names.rules.core i r) where
  -- the opcode, the modifier and both operands are written
  abbrev printed_form : FormView
  printed_form = form i.opcode (Some i.modifier) (operand_tokens (Some (a_tokens r)) (Some (b_tokens r)))

  -- the form of a printed line
  form_there : form_of source (row_tokens r) ≡ Ok printed_form
  unfolding form_of after_opcode with_modifier with_operands
  form_there =
      let m = names.rules.core in
      let operands : List Token = a_tokens r ++ (r.comma ∷ b_tokens r) in
      let ca = number_no_comma m i.a_number r.a_number p.a_number in
      let cb = number_no_comma m i.b_number r.b_number p.b_number in
      let ps = two_parts r.a_sign r.a_number r.comma (b_tokens r) (sign_no_comma i.a_mode r.a_sign p.a_sign, ca) (ap is_comma_kind p.comma) (sign_no_comma i.b_mode r.b_sign p.b_sign, cb) in
      let d : is_dot r.dot ≡ true = ap is_dot_kind p.dot in
      ap (λ o. and_then (λ o. after_opcode source o (r.dot ∷ r.modifier ∷ operands)) (ok_or o UnknownOpcode)) (opcode_there source r.opcode i.opcode p.opcode)
      ∙ ap (λ b. if b then with_modifier source i.opcode (r.modifier ∷ operands) else with_operands i.opcode None (r.dot ∷ r.modifier ∷ operands)) d
      ∙ ap (λ o. and_then (λ f. with_operands i.opcode (Some f) operands) (ok_or o UnknownOpcode)) (modifier_there source r.modifier i.modifier p.modifier)
      ∙ ap (λ x. mapped (form i.opcode (Some i.modifier)) (operands_of i.opcode x)) ps

  -- the tokens of a printed instruction spell it
  pub instruction_there : names.rules.core ≤ 65535 → i.a_number < names.rules.core → i.b_number < names.rules.core → instruction_at source names address (row_tokens r) ≡ Ok i
  unfolding instruction_at instruction_of_form instruction_of_parts
  instruction_there l a b =
      let s = printed_form in
      let x : Operand = record { mode = i.a_mode; number = i.a_number } in
      ap (and_then (λ s. with_fault Value (instruction_of_form source names address s))) form_there
      ∙ ap (λ v. with_fault Value (and_then (λ o. mapped (instruction_of_parts s o) (operand_at source names address (Some (b_tokens r)))) v)) (operand_there source names address i.a_number i.a_mode r.a_sign r.a_number a l p.a_sign p.a_number)
      ∙ ap (λ v. with_fault Value (mapped (instruction_of_parts s x) v)) (operand_there source names address i.b_number i.b_mode r.b_sign r.b_number b l p.b_sign p.b_number)
