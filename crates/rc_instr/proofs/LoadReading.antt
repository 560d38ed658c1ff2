-- The parts of a load file at the front of bytes: what is written is read, and nothing else.
use Rattle.std.proofs.Common.{◌≡◌, ℕ, ◌<◌, ◌≤◌, ◌^◌, ◌-◌, ◌*◌, Bool, true, false, List, [], ◌∷◌, ◌++◌, length, refl, sym, ◌∙◌, ap, subst, arith, append_assoc, length-append, inl, inr, Some, None}
use Rattle.std.specs.Prelude.{Option, ◌&&◌, nat_lt, nat_le, ◌==◌, if◌then◌else◌, option_and_then}
use Rattle.std.specs.Fmt.{decimal}
use Rattle.std.proofs.lemmas.Bool.Decides.{leb_tells}
use Rattle.std.proofs.lemmas.Bool.{and_parts}
use Rattle.std.proofs.lemmas.Option.{same_Some}
use borrow.Author.Tests.{ltb-true, lt-ltb, lt-leb, eqb-true}
use Rattle.rc_instr.specs.Digits.{NoDigitFirst}
use Rattle.rc_instr.specs.Words.{opcode_text, modifier_text, opcode_of, modifier_of}
use Rattle.rc_instr.specs.Warrior.{IsBelow}
use Rattle.rc_instr.specs.LoadText.{mode_text, mode_of, modes, number_text, operand_text, line_text, start_text}
use Rattle.rc_instr.specs.LoadReaders.{Reader, gives, ◌>>=◌, given, if_passes, this_byte, opcode_at, modifier_at, mode_at, short_number_at, number_by, number_at, operand_at, head_at, comma_at, line_at, start_at}
use Rattle.rc_instr.specs.declared.instruction.Instruction.{Instruction}
use Rattle.rc_instr.specs.declared.instruction.Opcode.{Opcode}
use Rattle.rc_instr.specs.declared.instruction.Opcode.TheVariants.{Dat, Mov, Add, Sub, Mul, Div, Mod, Jmp, Jmz, Jmn, Djn, Seq, Sne, Slt, Spl, Nop}
use Rattle.rc_instr.specs.declared.instruction.Modifier.{Modifier}
use Rattle.rc_instr.specs.declared.instruction.Modifier.TheVariants.{A, B, AB, BA, F, X, I}
use Rattle.rc_instr.specs.declared.instruction.Mode.{Mode}
use Rattle.rc_instr.specs.declared.instruction.Mode.TheVariants.{Immediate, Direct, AIndirect, BIndirect, APredecrement, BPredecrement, APostincrement, BPostincrement}
use Rattle.rc_instr.proofs.LoadNumbers.{short_front, short_some, kept}
use Rattle.rc_instr.proofs.CheckSteps.{at_most}
use Rattle.rc_instr.proofs.Decimals.{decimal_first}
use Rattle.rc_instr.proofs.WordTable.{found_word, opcode_found, modifier_word_is}

-- a reader that goes on gave something first
pub went_on : {A B : Type 0} (r : Option (A × List ℕ)) (f : A × List ℕ → Option B) (y : B) → option_and_then f r ≡ Some y → (x : A) × (rest : List ℕ) × (r ≡ Some (x, rest)) × (f (x, rest) ≡ Some y)
went_on None f y e = absurd (cc)
went_on (Some x) f y e = (x.0, x.1, refl, e)

-- what a table gives is taken from the front
given_is : {A : Type 0} (o : Option A) (bytes : List ℕ) (x : A) (rest : List ℕ) → given o bytes ≡ Some (x, rest) → (o ≡ Some x) × (bytes ≡ rest)
given_is None bytes x rest e = absurd (cc)
given_is {A} (Some y) bytes x rest e = let q = same_Some (y, bytes) (x, rest) e in (ap Some (ap (λ (p : A × List ℕ). p.0) q), ap (λ (p : A × List ℕ). p.1) q)

byte_is : (b : ℕ) (bs : List ℕ) (u : Unit {0}) (rest : List ℕ) → this_byte b bs ≡ Some (u, rest) → bs ≡ b ∷ rest
byte_is b [] u rest e = absurd (cc)
byte_is b (x ∷ xs) u rest e = by_test (x == b) refl e where
  by_test : (t : Bool) → (x == b) ≡ t → if_passes {A = Unit {0} × List ℕ} t (tt, xs) ≡ Some (u, rest) → x ∷ xs ≡ b ∷ rest
  by_test true h q =
      let p = same_Some (tt, xs) (u, rest) q in
      let first : x ≡ b = eqb-true x b h in
      let others : xs ≡ rest = ap (λ (p : Unit {0} × List ℕ). p.1) p in
      cc
  by_test false h q = absurd (cc)

opcode_read : (o : Opcode) (rest : List ℕ) → opcode_at (opcode_text o ++ rest) ≡ Some (o, rest)
unfolding opcode_at
opcode_read Dat rest = refl
opcode_read Mov rest = refl
opcode_read Add rest = refl
opcode_read Sub rest = refl
opcode_read Mul rest = refl
opcode_read Div rest = refl
opcode_read Mod rest = refl
opcode_read Jmp rest = refl
opcode_read Jmz rest = refl
opcode_read Jmn rest = refl
opcode_read Djn rest = refl
opcode_read Seq rest = refl
opcode_read Sne rest = refl
opcode_read Slt rest = refl
opcode_read Spl rest = refl
opcode_read Nop rest = refl

opcode_is : (bs : List ℕ) (o : Opcode) (rest : List ℕ) → opcode_at bs ≡ Some (o, rest) → bs ≡ opcode_text o ++ rest
unfolding opcode_at
opcode_is [] o rest e = absurd (cc)
opcode_is (a ∷ []) o rest e = absurd (cc)
opcode_is (a ∷ b ∷ []) o rest e = absurd (cc)
opcode_is (a ∷ b ∷ c ∷ others) o rest e =
    let g = given_is (opcode_of (a ∷ b ∷ c ∷ [])) others o rest e in
    opcode_found a b c others o g.0 ∙ ap (λ x. opcode_text o ++ x) g.1

modifier_read : (m : Modifier) (rest : List ℕ) → modifier_at (modifier_text m ++ 32 ∷ rest) ≡ Some (m, rest)
unfolding modifier_at
modifier_read A rest = refl
modifier_read B rest = refl
modifier_read AB rest = refl
modifier_read BA rest = refl
modifier_read F rest = refl
modifier_read X rest = refl
modifier_read I rest = refl

abbrev modifier_by : Bool → (a b : ℕ) → Reader Modifier
modifier_by t a b rest = if t then given (modifier_of (a ∷ [])) rest else (given (modifier_of (a ∷ b ∷ [])) >>= (λ m. this_byte 32 >>= (λ _. gives m))) rest

modifier_is : (bs : List ℕ) (m : Modifier) (rest : List ℕ) → modifier_at bs ≡ Some (m, rest) → bs ≡ modifier_text m ++ 32 ∷ rest
unfolding modifier_at
modifier_is [] m rest e = absurd (cc)
modifier_is (a ∷ []) m rest e = absurd (cc)
modifier_is (a ∷ b ∷ others) m rest e = by_space (b == 32) refl e where
  by_space : (t : Bool) → (b == 32) ≡ t → modifier_by t a b others ≡ Some (m, rest) → a ∷ b ∷ others ≡ modifier_text m ++ 32 ∷ rest
  by_space true h q =
      let g = given_is (modifier_of (a ∷ [])) others m rest q in
      let w = modifier_word_is (a ∷ []) m g.0 in
      ap (λ x. a ∷ x ∷ others) (eqb-true b 32 h) ∙ ap (λ x. x ++ 32 ∷ others) w ∙ ap (λ x. modifier_text m ++ 32 ∷ x) g.1
  by_space false h q =
      let g = went_on (given (modifier_of (a ∷ b ∷ [])) others) _ _ q in
      let t = given_is (modifier_of (a ∷ b ∷ [])) others g.0 g.1 g.2 in
      let s = went_on (this_byte 32 g.1) _ _ g.3 in
      let y = same_Some (g.0, s.1) (m, rest) s.3 in
      let n : g.0 ≡ m = ap (λ (p : Modifier × List ℕ). p.0) y in
      let e : s.1 ≡ rest = ap (λ (p : Modifier × List ℕ). p.1) y in
      let w = modifier_word_is (a ∷ b ∷ []) g.0 t.0 in
      let z = byte_is 32 g.1 s.0 s.1 s.2 in
      ap (λ x. x ++ others) w ∙ ap (λ x. modifier_text x ++ others) n ∙ ap (λ x. modifier_text m ++ x) (t.1 ∙ z ∙ ap (λ x. 32 ∷ x) e)

mode_read : (m : Mode) (rest : List ℕ) → mode_at (mode_text m ++ rest) ≡ Some (m, rest)
unfolding mode_at
mode_read Immediate rest = refl
mode_read Direct rest = refl
mode_read AIndirect rest = refl
mode_read BIndirect rest = refl
mode_read APredecrement rest = refl
mode_read BPredecrement rest = refl
mode_read APostincrement rest = refl
mode_read BPostincrement rest = refl

pub mode_is : (bs : List ℕ) (m : Mode) (rest : List ℕ) → mode_at bs ≡ Some (m, rest) → bs ≡ mode_text m ++ rest
unfolding mode_at
mode_is [] m rest e = absurd (cc)
mode_is (a ∷ others) m rest e =
    let g = given_is (mode_of (a ∷ [])) others m rest e in
    ap (λ w. w ++ others) (found_word mode_text modes (a ∷ []) m g.0) ∙ ap (λ x. mode_text m ++ x) g.1

-- what a reader gives at its end
gave : {A : Type 0} (x : A) (bytes : List ℕ) (y : A) (rest : List ℕ) → gives x bytes ≡ Some (y, rest) → (x ≡ y) × (bytes ≡ rest)
gave {A} x bytes y rest e = let q = same_Some (x, bytes) (y, rest) e in (ap (λ (p : A × List ℕ). p.0) q, ap (λ (p : A × List ℕ). p.1) q)

-- no decimal begins with a minus sign
no_minus : (bs : List ℕ) → ((cs : List ℕ) → 45 ∷ cs ≡ bs → ⊥) → this_byte 45 bs ≡ None
no_minus [] h = refl
no_minus (x ∷ xs) h = by_test (x == 45) refl where
  by_test : (t : Bool) → (x == 45) ≡ t → if_passes {A = Unit {0} × List ℕ} t (tt, xs) ≡ None
  by_test true e = absurd (h xs (ap (λ y. y ∷ xs) (sym (eqb-true x 45 e))))
  by_test false e = refl

number_read : (m n : ℕ) (rest : List ℕ) → m ≤ 65535 → n < m → NoDigitFirst rest → number_at m (number_text m n ++ rest) ≡ Some (n, rest)
unfolding number_at number_text
number_read m n rest l k h = elim (leb_tells (2 * n) m) [
  | inl p ↦
      let small : n < 2 ^ 16 = omega arith in
      let none = no_minus (decimal n ++ rest) (λ cs e. decimal_first n rest cs (omega arith) e) in
      rw (p.0, none, short_front n rest (decimal n ++ rest) small h refl, p.0) refl
  | inr p ↦
      let small : m - n < 2 ^ 16 = omega arith in
      let back : m - (m - n) ≡ n = omega arith in
      rw (p.0, short_front (m - n) rest (decimal (m - n) ++ rest) small h refl, lt-ltb 0 (m - n) (omega arith), lt-ltb (2 * (m - n)) m (omega arith), back) refl
]

pub record IsNumber (m : ℕ) (bs : List ℕ) (n : ℕ) (rest : List ℕ) : Type 0 where
  pub text : bs ≡ number_text m n ++ rest
  pub below : n < m

number_is : (m : ℕ) (bs : List ℕ) (n : ℕ) (rest : List ℕ) → 0 < m → number_at m bs ≡ Some (n, rest) → IsNumber m bs n rest
unfolding number_at number_text
number_is m bs n rest k e = by_sign (this_byte 45 bs) refl e where
  by_sign : (o : Option (Unit {0} × List ℕ)) → this_byte 45 bs ≡ o → number_by m o bs ≡ Some (n, rest) → IsNumber m bs n rest
  by_sign None h q =
      let g = went_on (short_number_at bs) _ _ q in
      let s = short_some bs g.0 g.1 g.2 in
      let t = kept (nat_le (2 * g.0) m) g.0 g.1 n rest g.3 in
      let f : nat_le (2 * n) m ≡ true = sym (ap (λ k. nat_le (2 * k) m) t.1) ∙ t.0 in
      let small = at_most (2 * n) m f in
      record {
        text = rw f (s.text ∙ ap (λ k. decimal k ++ g.1) t.1 ∙ ap (λ r. decimal n ++ r) t.2);
        below = omega arith;
      }
  by_sign (Some x) h q =
      let g = went_on (short_number_at x.1) _ _ q in
      let s = short_some x.1 g.0 g.1 g.2 in
      let t = kept (nat_lt 0 g.0 && nat_lt (2 * g.0) m) (m - g.0) g.1 n rest g.3 in
      let u = and_parts (nat_lt 0 g.0) (nat_lt (2 * g.0) m) t.0 in
      let some = ltb-true 0 g.0 u.0 in
      let less = ltb-true (2 * g.0) m u.1 in
      let is = t.1 in
      let f : nat_le (2 * n) m ≡ false = lt-leb (2 * n) m (omega arith) in
      let back : g.0 ≡ m - n = omega arith in
      let d : x.1 ≡ decimal (m - n) ++ rest = s.text ∙ ap (λ k. decimal k ++ g.1) back ∙ ap (λ r. decimal (m - n) ++ r) t.2 in
      record {
        text = rw f (byte_is 45 bs x.0 x.1 h ∙ ap (λ r. 45 ∷ r) d);
        below = omega arith;
      }

operand_read : (m : ℕ) (mode : Mode) (n : ℕ) (rest : List ℕ) → m ≤ 65535 → n < m → NoDigitFirst rest → operand_at m (operand_text m mode n ++ rest) ≡ Some ((mode, n), rest)
unfolding operand_at operand_text
operand_read m mode n rest l k h =
    rw (append_assoc (mode_text mode) (number_text m n) rest, mode_read mode (number_text m n ++ rest), number_read m n rest l k h) refl

pub record IsOperand (m : ℕ) (bs : List ℕ) (mode : Mode) (n : ℕ) (rest : List ℕ) : Type 0 where
  pub text : bs ≡ operand_text m mode n ++ rest
  pub below : n < m

operand_is : (m : ℕ) (bs : List ℕ) (o : Mode × ℕ) (rest : List ℕ) → 0 < m → operand_at m bs ≡ Some (o, rest) → IsOperand m bs o.0 o.1 rest
unfolding operand_at operand_text
operand_is m bs o rest k e =
    let g = went_on (mode_at bs) _ _ e in
    let d = went_on (number_at m g.1) _ _ g.3 in
    let y = gave (g.0, d.0) d.1 o rest d.3 in
    let mode : g.0 ≡ o.0 = ap (λ (p : Mode × ℕ). p.0) y.0 in
    let number : d.0 ≡ o.1 = ap (λ (p : Mode × ℕ). p.1) y.0 in
    let n = number_is m g.1 d.0 d.1 k d.2 in
    let below = n.below in
    let text = mode_is bs g.0 g.1 g.2 ∙ ap (λ r. mode_text g.0 ++ r) n.text in
    record {
      text = text ∙ ap (λ x. mode_text x ++ (number_text m d.0 ++ d.1)) mode ∙ ap (λ x. mode_text o.0 ++ (number_text m x ++ d.1)) number
          ∙ ap (λ r. mode_text o.0 ++ (number_text m o.1 ++ r)) y.1 ∙ sym (append_assoc (mode_text o.0) (number_text m o.1) rest);
      below = omega (arith, number);
    }

head_read : (o : Opcode) (m : Modifier) (rest : List ℕ) → head_at (opcode_text o ++ 46 ∷ (modifier_text m ++ 32 ∷ rest)) ≡ Some ((o, m), rest)
unfolding head_at
head_read o m rest = rw (opcode_read o (46 ∷ (modifier_text m ++ 32 ∷ rest)), modifier_read m rest) refl

head_is : (bs : List ℕ) (h : Opcode × Modifier) (rest : List ℕ) → head_at bs ≡ Some (h, rest) → bs ≡ opcode_text h.0 ++ 46 ∷ (modifier_text h.1 ++ 32 ∷ rest)
unfolding head_at
head_is bs h rest e =
    let o = went_on (opcode_at bs) _ _ e in
    let d = went_on (this_byte 46 o.1) _ _ o.3 in
    let m = went_on (modifier_at d.1) _ _ d.3 in
    let y = gave (o.0, m.0) m.1 h rest m.3 in
    let opcode : o.0 ≡ h.0 = ap (λ (p : Opcode × Modifier). p.0) y.0 in
    let modifier : m.0 ≡ h.1 = ap (λ (p : Opcode × Modifier). p.1) y.0 in
    let others = byte_is 46 o.1 d.0 d.1 d.2 ∙ ap (λ r. 46 ∷ r) (modifier_is d.1 m.0 m.1 m.2 ∙ ap (λ x. modifier_text x ++ 32 ∷ m.1) modifier ∙ ap (λ r. modifier_text h.1 ++ 32 ∷ r) y.1) in
    opcode_is bs o.0 o.1 o.2 ∙ ap (λ x. opcode_text x ++ o.1) opcode ∙ ap (λ r. opcode_text h.0 ++ r) others

comma_is : (bs : List ℕ) (u : Unit {0}) (rest : List ℕ) → comma_at bs ≡ Some (u, rest) → bs ≡ 44 ∷ 32 ∷ rest
unfolding comma_at
comma_is bs u rest e =
    let c = went_on (this_byte 44 bs) _ _ e in
    byte_is 44 bs c.0 c.1 c.2 ∙ ap (λ r. 44 ∷ r) (byte_is 32 c.1 u rest c.3)

-- the parts of a line, one after another
line_parts : (m : ℕ) (i : Instruction) (rest : List ℕ) →
    line_text m i ++ rest ≡ opcode_text i.opcode ++ 46 ∷ (modifier_text i.modifier ++ 32 ∷ (operand_text m i.a_mode i.a_number ++ 44 ∷ 32 ∷ (operand_text m i.b_mode i.b_number ++ 10 ∷ rest)))
unfolding line_text
line_parts m i rest = simp append_assoc

pub line_read : (m : ℕ) (i : Instruction) (rest : List ℕ) → m ≤ 65535 → IsBelow m i → line_at m (line_text m i ++ rest) ≡ Some (i, rest)
unfolding line_at comma_at
line_read m i rest l h =
    rw (
      line_parts m i rest,
      head_read i.opcode i.modifier (operand_text m i.a_mode i.a_number ++ 44 ∷ 32 ∷ (operand_text m i.b_mode i.b_number ++ 10 ∷ rest)),
      operand_read m i.a_mode i.a_number (44 ∷ 32 ∷ (operand_text m i.b_mode i.b_number ++ 10 ∷ rest)) l h.a refl,
      operand_read m i.b_mode i.b_number (10 ∷ rest) l h.b refl,
    ) refl

pub record IsLine (m : ℕ) (bs : List ℕ) (i : Instruction) (rest : List ℕ) : Type 0 where
  pub text : bs ≡ line_text m i ++ rest
  pub below : IsBelow m i

pub line_is : (m : ℕ) (bs : List ℕ) (i : Instruction) (rest : List ℕ) → 0 < m → line_at m bs ≡ Some (i, rest) → IsLine m bs i rest
unfolding line_at
line_is m bs i rest k e =
    let h = went_on (head_at bs) _ _ e in
    let a = went_on (operand_at m h.1) _ _ h.3 in
    let c = went_on (comma_at a.1) _ _ a.3 in
    let b = went_on (operand_at m c.1) _ _ c.3 in
    let f = went_on (this_byte 10 b.1) _ _ b.3 in
    let y = gave _ f.1 i rest f.3 in
    let ao = operand_is m h.1 a.0 a.1 k a.2 in
    let bo = operand_is m c.1 b.0 b.1 k b.2 in
    let j : Instruction = record { opcode = h.0.0; modifier = h.0.1; a_mode = a.0.0; a_number = a.0.1; b_mode = b.0.0; b_number = b.0.1 } in
    let same : j ≡ i = y.0 in
    let last = bo.text ∙ ap (λ r. operand_text m b.0.0 b.0.1 ++ r) (byte_is 10 b.1 f.0 f.1 f.2 ∙ ap (λ r. 10 ∷ r) y.1) in
    let first = ao.text ∙ ap (λ r. operand_text m a.0.0 a.0.1 ++ r) (comma_is a.1 c.0 c.1 c.2 ∙ ap (λ r. 44 ∷ 32 ∷ r) last) in
    let text = head_is bs h.0 h.1 h.2 ∙ ap (λ r. opcode_text h.0.0 ++ 46 ∷ (modifier_text h.0.1 ++ 32 ∷ r)) first in
    let below : IsBelow m j = record { a = ao.below; b = bo.below } in
    record {
      text = text ∙ sym (line_parts m j rest) ∙ ap (λ x. line_text m x ++ rest) same;
      below = subst (λ x. IsBelow m x) same below;
    }

start_parts : (n : ℕ) (rest : List ℕ) → start_text n ++ rest ≡ 79 ∷ 82 ∷ 71 ∷ 32 ∷ (decimal n ++ 10 ∷ rest)
unfolding start_text
start_parts n rest = simp append_assoc

pub start_read : (n : ℕ) (rest : List ℕ) → n < 2 ^ 16 → start_at (start_text n ++ rest) ≡ Some (n, rest)
unfolding start_at
start_read n rest l = rw (start_parts n rest, short_front n (10 ∷ rest) (decimal n ++ 10 ∷ rest) l refl refl) refl

pub start_is : (bs : List ℕ) (n : ℕ) (rest : List ℕ) → start_at bs ≡ Some (n, rest) → (bs ≡ start_text n ++ rest) × (n < 2 ^ 16)
unfolding start_at
start_is bs n rest e =
    let o = went_on (this_byte 79 bs) _ _ e in
    let r = went_on (this_byte 82 o.1) _ _ o.3 in
    let g = went_on (this_byte 71 r.1) _ _ r.3 in
    let s = went_on (this_byte 32 g.1) _ _ g.3 in
    let d = went_on (short_number_at s.1) _ _ s.3 in
    let f = went_on (this_byte 10 d.1) _ _ d.3 in
    let y = gave d.0 f.1 n rest f.3 in
    let t = short_some s.1 d.0 d.1 d.2 in
    let last = t.text ∙ ap (λ x. decimal x ++ d.1) y.0 ∙ ap (λ r. decimal n ++ r) (byte_is 10 d.1 f.0 f.1 f.2 ∙ ap (λ r. 10 ∷ r) y.1) in
    let word = byte_is 79 bs o.0 o.1 o.2 ∙ ap (λ x. 79 ∷ x) (byte_is 82 o.1 r.0 r.1 r.2 ∙ ap (λ x. 82 ∷ x) (byte_is 71 r.1 g.0 g.1 g.2 ∙ ap (λ x. 71 ∷ x) (byte_is 32 g.1 s.0 s.1 s.2 ∙ ap (λ x. 32 ∷ x) last))) in
    let small = t.small in
    let same = y.0 in
    (word ∙ sym (start_parts n rest), omega (arith, small, same))

-- A line takes at least a byte.
pub line_shorter : (m : ℕ) (i : Instruction) (rest others : List ℕ) → rest ≡ line_text m i ++ others → length others < length rest
unfolding line_text
line_shorter m i rest others e = rw e (simp length-append (omega arith))
