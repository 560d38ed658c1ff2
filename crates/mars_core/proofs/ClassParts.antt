-- What the class of an instruction says of its parts.
use Rattle.std.proofs.Common.{◌≡◌, ℕ, sym, ◌∙◌, ◌<◌, ◌+◌, ◌*◌, inl, inr, ap, arith}
use Rattle.rc_instr.specs.Instruction.{opcode_number, modifier_number, mode_number}
use Rattle.rc_instr.specs.declared.instruction.Instruction.{Instruction}
use Rattle.mars_core.specs.Classes.{key_of, canonical_modifier, canonical, class_of_key, modes_class_of, IsClassOf}
use Rattle.mars_core.specs.Codes.{opcode_of, modifier_of, mode_of}
use Rattle.mars_core.proofs.Keys.{key_in, Leads, leads}
use Rattle.mars_core.proofs.Packing.{opcode_small, modifier_small, mode_small}

-- the opcode, canonical modifier and modes of an instruction have these numbers
pub record IsCoded (opcode modifier a_mode b_mode : ℕ) (i : Instruction) : Type 0 where
  pub opcode_is : i.opcode ≡ opcode_of opcode
  pub modifier_is : canonical_modifier i.opcode i.modifier ≡ modifier_of modifier
  pub a_mode_is : i.a_mode ≡ mode_of a_mode
  pub b_mode_is : i.b_mode ≡ mode_of b_mode

-- the modes of an instruction have these numbers
pub record IsModed (a_mode b_mode : ℕ) (i : Instruction) : Type 0 where
  pub a_mode_is : i.a_mode ≡ mode_of a_mode
  pub b_mode_is : i.b_mode ≡ mode_of b_mode

-- the key of a canonical instruction says the parts
parted : (i : Instruction) (o k a b : ℕ) → key_of (canonical i) ≡ k + 8 * o + 256 * (a + 8 * b) → k < 8 → o < 16 → a < 8 → b < 8 → IsCoded o k a b i
parted i o k a b e lk lo la lb =
    let so = opcode_small i.opcode in
    let sk = modifier_small (canonical_modifier i.opcode i.modifier) in
    let sm = mode_small i.a_mode in
    let sn = mode_small i.b_mode in
    let eo : opcode_number i.opcode ≡ o = omega (arith, e, so.0, sk.0, sm.0, sn.0) in
    let ek : modifier_number (canonical_modifier i.opcode i.modifier) ≡ k = omega (arith, e, so.0, sk.0, sm.0, sn.0) in
    let ea : mode_number i.a_mode ≡ a = omega (arith, e, so.0, sk.0, sm.0, sn.0) in
    let eb : mode_number i.b_mode ≡ b = omega (arith, e, so.0, sk.0, sm.0, sn.0) in
    record {
      opcode_is = sym so.1 ∙ ap opcode_of eo;
      modifier_is = sym sk.1 ∙ ap modifier_of ek;
      a_mode_is = sym sm.1 ∙ ap mode_of ea;
      b_mode_is = sym sn.1 ∙ ap mode_of eb;
    }

led : (k n : ℕ) → n ≡ class_of_key k → n < 128 → Leads k (class_of_key k) → k ≡ key_in n
led k n e s (inl q) = sym q.1 ∙ ap key_in (sym e)
led k n e s (inr q) = absurd (omega (arith, e, q, s))

-- one of the first 128 classes says the opcode, the canonical modifier and the modes
pub coded : (i : Instruction) (n o k a b : ℕ) → IsClassOf i n → n < 128 → n ≡ class_of_key (k + 8 * o + 256 * (a + 8 * b)) → k < 8 → o < 16 → a < 8 → b < 8 → IsCoded o k a b i
coded i n o k a b h s e lk lo la lb = parted i o k a b (led _ n (h.own s) s (leads _) ∙ sym (led _ n e s (leads _))) lk lo la lb

modes_are : (i : Instruction) (n a b : ℕ) → n ≡ modes_class_of i → n ≡ 128 + a + 8 * b → a < 8 → b < 8 → IsModed a b i
modes_are i n a b p e la lb =
    let sm = mode_small i.a_mode in
    let sn = mode_small i.b_mode in
    let ea : mode_number i.a_mode ≡ a = omega (arith, p, e, sm.0, sn.0) in
    let eb : mode_number i.b_mode ≡ b = omega (arith, p, e, sm.0, sn.0) in
    record { a_mode_is = sym sm.1 ∙ ap mode_of ea; b_mode_is = sym sn.1 ∙ ap mode_of eb }

-- one of the others says the modes
pub moded : (i : Instruction) (n a b : ℕ) → IsClassOf i n → n ≡ 128 + a + 8 * b → a < 8 → b < 8 → IsModed a b i
moded i n a b h e la lb = modes_are i n a b (h.modes (omega (arith, e))) e la lb
