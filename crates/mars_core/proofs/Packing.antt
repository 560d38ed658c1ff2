-- Words and their parts.
use Rattle.std.proofs.Common.{◌≡◌, ℕ, Bool, true, false, sym, subst, ◌∙◌, ◌<◌, ◌≤◌, ◌+◌, ◌*◌, ◌-◌, ◌/◌, ◌%◌, ◌==◌, inl, inr, ap, refl, arith}
use Rattle.std.proofs.lemmas.Bool.{eqb-true, eq-eqb}
use Rattle.rc_instr.specs.Instruction.{opcode_number, modifier_number, mode_number, same_instruction}
use Rattle.rc_instr.proofs.Same.{derived, same-true, same_self}
use Rattle.rc_instr.specs.declared.instruction.Instruction.{Instruction}
use Rattle.rc_instr.specs.declared.instruction.Opcode.{Opcode}
use Rattle.rc_instr.specs.declared.instruction.Opcode.TheVariants.{Dat, Mov, Add, Sub, Mul, Div, Mod, Jmp, Jmz, Jmn, Djn, Seq, Sne, Slt, Spl, Nop}
use Rattle.rc_instr.specs.declared.instruction.Modifier.{Modifier}
use Rattle.rc_instr.specs.declared.instruction.Modifier.TheVariants.{A, B, AB, BA, F, X, I}
use Rattle.rc_instr.specs.declared.instruction.Mode.{Mode}
use Rattle.rc_instr.specs.declared.instruction.Mode.TheVariants.{Immediate, Direct, AIndirect, BIndirect, APredecrement, BPredecrement, APostincrement, BPostincrement}
use Rattle.mars_core.specs.Core.{with_field}
use Rattle.mars_core.specs.declared.number.Field.TheVariants.{ANumber, BNumber}
use Rattle.mars_core.specs.Classes.{key_of, canonical_modifier, canonical, class_of, modes_class_of, IsClassOf}
use Rattle.mars_core.specs.Codes.{opcode_of, modifier_of, mode_of}
use Rattle.mars_core.specs.Packed.{IsClassed, class_in, packed, unpacked, mark_of, marked}
use Rattle.mars_core.proofs.Keys.{Leads, leads, class_small}

pub opcode_small : (o : Opcode) → (opcode_number o < 16) × (opcode_of (opcode_number o) ≡ o)
opcode_small Dat = (omega arith, refl)
opcode_small Mov = (omega arith, refl)
opcode_small Add = (omega arith, refl)
opcode_small Sub = (omega arith, refl)
opcode_small Mul = (omega arith, refl)
opcode_small Div = (omega arith, refl)
opcode_small Mod = (omega arith, refl)
opcode_small Jmp = (omega arith, refl)
opcode_small Jmz = (omega arith, refl)
opcode_small Jmn = (omega arith, refl)
opcode_small Djn = (omega arith, refl)
opcode_small Seq = (omega arith, refl)
opcode_small Sne = (omega arith, refl)
opcode_small Slt = (omega arith, refl)
opcode_small Spl = (omega arith, refl)
opcode_small Nop = (omega arith, refl)

pub modifier_small : (k : Modifier) → (modifier_number k < 8) × (modifier_of (modifier_number k) ≡ k)
modifier_small A = (omega arith, refl)
modifier_small B = (omega arith, refl)
modifier_small AB = (omega arith, refl)
modifier_small BA = (omega arith, refl)
modifier_small F = (omega arith, refl)
modifier_small X = (omega arith, refl)
modifier_small I = (omega arith, refl)

pub mode_small : (m : Mode) → (mode_number m < 8) × (mode_of (mode_number m) ≡ m)
mode_small Immediate = (omega arith, refl)
mode_small Direct = (omega arith, refl)
mode_small AIndirect = (omega arith, refl)
mode_small BIndirect = (omega arith, refl)
mode_small APredecrement = (omega arith, refl)
mode_small BPredecrement = (omega arith, refl)
mode_small APostincrement = (omega arith, refl)
mode_small BPostincrement = (omega arith, refl)

abbrev instruction : Opcode → Modifier → Mode → ℕ → Mode → ℕ → Instruction
instruction o k m x n y = record { opcode = o; modifier = k; a_mode = m; a_number = x; b_mode = n; b_number = y }

-- two instructions with equal parts are equal
parts : (o o' : ℕ) (k k' : ℕ) (m m' n n' x x' y y' : ℕ) → o ≡ o' → k ≡ k' → m ≡ m' → x ≡ x' → n ≡ n' → y ≡ y' →
    instruction (opcode_of o) (modifier_of k) (mode_of m) x (mode_of n) y ≡ instruction (opcode_of o') (modifier_of k') (mode_of m') x' (mode_of n') y'
parts o o' k k' m m' n n' x x' y y' eo ek em ex en ey = rw (eo, ek, em, ex, en, ey) refl

-- a key is small
pub key_small : (i : Instruction) → key_of i < 16384
key_small i =
    let so = opcode_small i.opcode in
    let sk = modifier_small i.modifier in
    let sm = mode_small i.a_mode in
    let sn = mode_small i.b_mode in
    omega (arith, so.0, sk.0, sm.0, sn.0)

modes_led : (i : Instruction) (n : ℕ) → n ≡ class_of i → 128 ≤ n → Leads (key_of (canonical i)) (class_of i) → n ≡ modes_class_of i
modes_led i n e l (inl h) = absurd (omega (arith, e, l, h.0))
modes_led i n e l (inr h) =
    let so = opcode_small i.opcode in
    let sk = modifier_small (canonical_modifier i.opcode i.modifier) in
    omega (arith, e, h, so.0, sk.0)

-- what an instruction's own class says of it is true
pub own_class : (i : Instruction) (n : ℕ) → n ≡ class_of i → IsClassOf i n
own_class i n e = record { own = λ _. e; modes = λ l. modes_led i n e l (leads (key_of (canonical i))) }

-- what the class of its modes says of it is true
pub modes_class : (i : Instruction) (n : ℕ) → n ≡ modes_class_of i → IsClassOf i n
modes_class i n e = record { own = λ l. absurd (omega (arith, e, l)); modes = λ _. e }

-- the opcode and the modifier in the code of a word
pub code_opcode : (w : ℕ) → opcode_of (w / 4294967296 % 128 / 8) ≡ opcode_of (w / 34359738368 % 16)
code_opcode w = let h : w / 4294967296 % 128 / 8 ≡ w / 34359738368 % 16 = omega arith in ap opcode_of h

pub code_modifier : (w : ℕ) → modifier_of (w / 4294967296 % 128 % 8) ≡ modifier_of (w / 4294967296 % 8)
code_modifier w = let h : w / 4294967296 % 128 % 8 ≡ w / 4294967296 % 8 = omega arith in ap modifier_of h

-- the opcode and the modifier in the code of an instruction
pub opcode_coded : (o : Opcode) (k : Modifier) (n : ℕ) → n ≡ modifier_number k + 8 * opcode_number o → opcode_of (n / 8) ≡ o
opcode_coded o k n e =
    let sk = modifier_small k in
    let h : n / 8 ≡ opcode_number o = omega (arith, e, sk.0) in
    ap opcode_of h ∙ (opcode_small o).1

pub modifier_coded : (o : Opcode) (k : Modifier) (n : ℕ) → n ≡ modifier_number k + 8 * opcode_number o → modifier_of (n % 8) ≡ k
modifier_coded o k n e =
    let sk = modifier_small k in
    let h : n % 8 ≡ modifier_number k = omega (arith, e, sk.0) in
    ap modifier_of h ∙ sk.1

pub ruleset code = (code_opcode, code_modifier, opcode_coded, modifier_coded)

pub unpacked_packed : (i : Instruction) (w : ℕ) → w ≡ packed i → i.a_number < 65536 → i.b_number < 65536 → unpacked w ≡ i
unfolding packed unpacked
unpacked_packed i w e a b =
    let so = opcode_small i.opcode in
    let sk = modifier_small i.modifier in
    let sm = mode_small i.a_mode in
    let sn = mode_small i.b_mode in
    let c = class_small (key_of (canonical i)) (key_small (canonical i)) in
    let o : w / 34359738368 % 16 ≡ opcode_number i.opcode = omega (arith, so.0, sk.0, sm.0, sn.0, c) in
    let k : w / 4294967296 % 8 ≡ modifier_number i.modifier = omega (arith, so.0, sk.0, sm.0, sn.0, c) in
    let m : w / 1099511627776 % 8 ≡ mode_number i.a_mode = omega (arith, so.0, sk.0, sm.0, sn.0, c) in
    let n : w / 8796093022208 % 8 ≡ mode_number i.b_mode = omega (arith, so.0, sk.0, sm.0, sn.0, c) in
    let x : w / 65536 % 65536 ≡ i.a_number = omega (arith, so.0, sk.0, sm.0, sn.0, c) in
    let y : w / 281474976710656 ≡ i.b_number = omega (arith, so.0, sk.0, sm.0, sn.0, c) in
    rw (o, k, m, n, x, y, so.1, sk.1, sm.1, sn.1) refl

-- the class that is packed is that of the instruction
pub classed_packed : (i : Instruction) (w : ℕ) → w ≡ packed i → i.a_number < 65536 → i.b_number < 65536 → IsClassed w
unfolding packed
classed_packed i w e a b =
    let so = opcode_small i.opcode in
    let sk = modifier_small i.modifier in
    let sm = mode_small i.a_mode in
    let sn = mode_small i.b_mode in
    let c = class_small (key_of (canonical i)) (key_small (canonical i)) in
    let h : class_in w ≡ class_of i = omega (arith, so.0, sk.0, sm.0, sn.0, c) in
    let k : w / 4294967296 % 65536 ≡ key_of i = omega (arith, so.0, sk.0, sm.0, sn.0, c) in
    let u = unpacked_packed i w e a b in
    record { class_is = own_class (unpacked w) (class_in w) (h ∙ sym (ap class_of u)); key_is = k ∙ sym (ap key_of u) }

-- what is true of an instruction is true of one that differs in its numbers alone
still_class : (i j : Instruction) (c d : ℕ) → d ≡ c → class_of j ≡ class_of i → modes_class_of j ≡ modes_class_of i → IsClassOf i c → IsClassOf j d
still_class i j c d e f g h = record {
  own = λ l. e ∙ h.own (omega (arith, e, l)) ∙ sym f;
  modes = λ l. e ∙ h.modes (omega (arith, e, l)) ∙ sym g;
}

-- what keeps the class and the key, and changes no more than the numbers
same_class : (v w : ℕ) → class_in v ≡ class_in w → v / 4294967296 % 65536 ≡ w / 4294967296 % 65536 → class_of (unpacked v) ≡ class_of (unpacked w) →
    modes_class_of (unpacked v) ≡ modes_class_of (unpacked w) → key_of (unpacked v) ≡ key_of (unpacked w) → IsClassed w → IsClassed v
same_class v w e k f g l h = record { class_is = still_class (unpacked w) (unpacked v) (class_in w) (class_in v) e f g h.class_is; key_is = k ∙ h.key_is ∙ sym l }

-- a word with another A-number
with_a : (w n v : ℕ) → n < 65536 → v ≡ w % 65536 + 65536 * n + 4294967296 * (w / 4294967296) →
    (unpacked v ≡ with_field ANumber n (unpacked w)) × (IsClassed w → IsClassed v)
unfolding unpacked
with_a w n v l e =
    let p : unpacked v ≡ with_field ANumber n (unpacked w) =
    parts _ _ _ _ _ _ _ _ _ _ _ _ (let h : v / 34359738368 % 16 ≡ w / 34359738368 % 16 = omega arith in h) (let h : v / 4294967296 % 8 ≡ w / 4294967296 % 8 = omega arith in h)
    (let h : v / 1099511627776 % 8 ≡ w / 1099511627776 % 8 = omega arith in h) (let h : v / 65536 % 65536 ≡ n = omega arith in h)
    (let h : v / 8796093022208 % 8 ≡ w / 8796093022208 % 8 = omega arith in h) (let h : v / 281474976710656 ≡ w / 281474976710656 = omega arith in h) in (
      p,
      same_class v w (let h : class_in v ≡ class_in w = omega arith in h) (let h : v / 4294967296 % 65536 ≡ w / 4294967296 % 65536 = omega arith in h)
          (ap class_of p) (ap modes_class_of p) (ap key_of p),
    )

with_b : (w n v : ℕ) → n < 65536 → v ≡ w % 281474976710656 + 281474976710656 * n →
    (unpacked v ≡ with_field BNumber n (unpacked w)) × (IsClassed w → IsClassed v)
unfolding unpacked
with_b w n v l e =
    let p : unpacked v ≡ with_field BNumber n (unpacked w) =
    parts _ _ _ _ _ _ _ _ _ _ _ _ (let h : v / 34359738368 % 16 ≡ w / 34359738368 % 16 = omega arith in h) (let h : v / 4294967296 % 8 ≡ w / 4294967296 % 8 = omega arith in h)
    (let h : v / 1099511627776 % 8 ≡ w / 1099511627776 % 8 = omega arith in h) (let h : v / 65536 % 65536 ≡ w / 65536 % 65536 = omega arith in h)
    (let h : v / 8796093022208 % 8 ≡ w / 8796093022208 % 8 = omega arith in h) (let h : v / 281474976710656 ≡ n = omega arith in h) in (
      p,
      same_class v w (let h : class_in v ≡ class_in w = omega arith in h) (let h : v / 4294967296 % 65536 ≡ w / 4294967296 % 65536 = omega arith in h)
          (ap class_of p) (ap modes_class_of p) (ap key_of p),
    )

-- a mark changes nothing in the instruction
pub unpacked_marked : (w : ℕ) → unpacked (marked w) ≡ unpacked w
unfolding unpacked marked mark_of
unpacked_marked w =
    let v = w + 32768 * (1 - w / 32768 % 2) in
    parts _ _ _ _ _ _ _ _ _ _ _ _ (let h : v / 34359738368 % 16 ≡ w / 34359738368 % 16 = omega arith in h) (let h : v / 4294967296 % 8 ≡ w / 4294967296 % 8 = omega arith in h)
    (let h : v / 1099511627776 % 8 ≡ w / 1099511627776 % 8 = omega arith in h) (let h : v / 65536 % 65536 ≡ w / 65536 % 65536 = omega arith in h)
    (let h : v / 8796093022208 % 8 ≡ w / 8796093022208 % 8 = omega arith in h) (let h : v / 281474976710656 ≡ w / 281474976710656 = omega arith in h)

pub classed_marked : (w v : ℕ) → v ≡ w + 32768 * (1 - w / 32768 % 2) → IsClassed w → IsClassed v
unfolding marked mark_of
classed_marked w v e p =
    let f : v ≡ marked w = e in
    let u : unpacked v ≡ unpacked w = ap unpacked f ∙ unpacked_marked w in
    same_class v w (let h : class_in v ≡ class_in w = omega arith in h) (let h : v / 4294967296 % 65536 ≡ w / 4294967296 % 65536 = omega arith in h)
    (ap class_of u) (ap modes_class_of u) (ap key_of u) p

pub mark_marked : (w : ℕ) → mark_of (marked w) ≡ 1
unfolding marked mark_of
mark_marked w = let h : (w + 32768 * (1 - w / 32768 % 2)) / 32768 % 2 ≡ 1 = omega arith in h

-- a word to which the difference of two A-numbers is added
pub moved_a : (w n u x y v : ℕ) → w < 18446744073709551616 → n < 65536 → u ≡ 65536 → x ≡ n → y ≡ w / 65536 % 65536 →
    v ≡ (w + u * ((x + (18446744073709551616 - y)) % 18446744073709551616) % 18446744073709551616) % 18446744073709551616 →
    (unpacked v ≡ with_field ANumber n (unpacked w)) × (IsClassed w → IsClassed v)
moved_a w n u x y v s l eu ex ey h =
    let g : v ≡ (w + 65536 * ((x + (18446744073709551616 - y)) % 18446744073709551616) % 18446744073709551616) % 18446744073709551616 = rw (← eu) h in
    with_a w n v l (omega (arith, s, l, ex, ey, g))

-- a word to which the difference of two B-numbers is added
pub moved_b : (w n u x y v : ℕ) → w < 18446744073709551616 → n < 65536 → u ≡ 281474976710656 → x ≡ n → y ≡ w / 281474976710656 →
    v ≡ (w + u * ((x + (18446744073709551616 - y)) % 18446744073709551616) % 18446744073709551616) % 18446744073709551616 →
    (unpacked v ≡ with_field BNumber n (unpacked w)) × (IsClassed w → IsClassed v)
moved_b w n u x y v s l eu ex ey h =
    let g : v ≡ (w + 281474976710656 * ((x + (18446744073709551616 - y)) % 18446744073709551616) % 18446744073709551616) % 18446744073709551616 = rw (← eu) h in
    with_b w n v l (omega (arith, s, l, ex, ey, g))

-- words that are equal but for class and mark have equal instructions
unpacked_same : (v w : ℕ) → v / 65536 ≡ w / 65536 → unpacked v ≡ unpacked w
unfolding unpacked
unpacked_same v w e =
    parts _ _ _ _ _ _ _ _ _ _ _ _ (let h : v / 34359738368 % 16 ≡ w / 34359738368 % 16 = omega (arith, e) in h) (let h : v / 4294967296 % 8 ≡ w / 4294967296 % 8 = omega (arith, e) in h)
    (let h : v / 1099511627776 % 8 ≡ w / 1099511627776 % 8 = omega (arith, e) in h) (let h : v / 65536 % 65536 ≡ w / 65536 % 65536 = omega (arith, e) in h)
    (let h : v / 8796093022208 % 8 ≡ w / 8796093022208 % 8 = omega (arith, e) in h) (let h : v / 281474976710656 ≡ w / 281474976710656 = omega (arith, e) in h)

-- and the other way round
rest_same : (v w : ℕ) → IsClassed v → IsClassed w → unpacked v ≡ unpacked w → v / 65536 ≡ w / 65536
unfolding unpacked
rest_same v w cv cw e =
    let k : v / 4294967296 % 65536 ≡ w / 4294967296 % 65536 = cv.key_is ∙ ap key_of e ∙ sym cw.key_is in
    let a : v / 65536 % 65536 ≡ w / 65536 % 65536 = ap (λ i. i.a_number) e in
    let b : v / 281474976710656 ≡ w / 281474976710656 = ap (λ i. i.b_number) e in
    omega (arith, k, a, b)

both_ways : (b c : Bool) → (b ≡ true → c ≡ true) → (c ≡ true → b ≡ true) → b ≡ c
both_ways true c f g = sym (f refl)
both_ways false true f g = g refl
both_ways false false f g = refl

-- so they can be compared in place of the instructions
pub same_words : (v w : ℕ) → IsClassed v → IsClassed w → (v / 65536 == w / 65536) ≡ same_instruction (unpacked v) (unpacked w)
same_words v w cv cw = both_ways _ _
    (λ e. subst (λ i. same_instruction (unpacked v) i ≡ true) (unpacked_same v w (eqb-true _ _ e)) (same_self (unpacked v)))
    (λ e. eq-eqb _ _ (rest_same v w cv cw (same-true _ _ (derived _ _ ∙ e))))
