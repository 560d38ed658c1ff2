-- A load text has at most `MOST_BYTES` bytes: a line has at most 24, and there are at most 201
-- lines.
use Rattle.std.proofs.Common.{◌≡◌, ℕ, suc, ◌+◌, ◌-◌, ◌*◌, ◌^◌, ◌<◌, ◌≤◌, List, [], ◌∷◌, ◌++◌, length, ap, arith, length-append, ⊎_elim}
use Rattle.std.specs.Prelude.{All, flat_map, codes, nat_le, if◌then◌else◌}
use Rattle.std.specs.Fmt.{decimal}
use Rattle.std.proofs.lemmas.Bool.{cases_Bool}
use Rattle.std.proofs.lemmas.List.Concat.{flat_map-cons}
use Rattle.rc_instr.specs.Words.{opcode_text, modifier_text}
use Rattle.rc_instr.specs.LoadText.{mode_text, number_text, operand_text, line_text, load_text}
use Rattle.rc_instr.specs.Warrior.{IsBelow, WarriorView}
use Rattle.rc_instr.specs.declared.instruction.Modifier.{Modifier}
use Rattle.rc_instr.specs.declared.instruction.Modifier.TheVariants as mod'
use Rattle.rc_instr.specs.declared.instruction.Mode.{Mode}
use Rattle.rc_instr.specs.declared.instruction.Instruction.{Instruction}
use Rattle.rc_instr.proofs.Decimals.{decimal_five}
use Rattle.rc_asm.specs.Limits.{MOST_BYTES}
use Rattle.rc_asm.proofs.LoadFile.Rows.{opcode_length, mode_len, parts_of_line}
use Rattle.rc_asm.proofs.LoadFile.NoHeader.{parts_of_start}

-- a modifier has one letter or two
modifier_short : (f : Modifier) → length (modifier_text f) ≤ 2
modifier_short mod'.A = omega arith
modifier_short mod'.B = omega arith
modifier_short mod'.AB = omega arith
modifier_short mod'.BA = omega arith
modifier_short mod'.F = omega arith
modifier_short mod'.X = omega arith
modifier_short mod'.I = omega arith

-- a number has at most five digits, and a minus sign
number_short : (m k : ℕ) → k < m → m ≤ 65535 → length (number_text m k) ≤ 6
unfolding number_text
number_short m k l s = ⊎_elim
    (λ e. let n : length (number_text m k) ≡ length (decimal k) = ap (λ b. length (if b then decimal k else codes "-" ++ decimal (m - k))) e in omega (arith, n, decimal_five k (omega (arith, l, s))))
    (λ e. let n : length (number_text m k) ≡ suc (length (decimal (m - k))) = ap (λ b. length (if b then decimal k else codes "-" ++ decimal (m - k))) e in omega (arith, n, decimal_five (m - k) (omega (arith, s))))
    (cases_Bool (nat_le (2 * k) m))

-- an operand has its mode before the number
operand_short : (m : ℕ) (mode : Mode) (k : ℕ) → k < m → m ≤ 65535 → length (operand_text m mode k) ≤ 7
unfolding operand_text
operand_short m mode k l s = omega (arith, length-append (mode_text mode) (number_text m k), mode_len mode, number_short m k l s)

-- a line has at most 24 bytes
line_short : (m : ℕ) (i : Instruction) (rest : List ℕ) → IsBelow m i → m ≤ 65535 → length (line_text m i ++ rest) ≤ 24 + length rest
line_short m i rest l s =
    let o = opcode_text i.opcode in
    let f = modifier_text i.modifier in
    let a = operand_text m i.a_mode i.a_number in
    let b = operand_text m i.b_mode i.b_number in
    let x4 : List ℕ = 10 ∷ rest in
    let x3 : List ℕ = b ++ x4 in
    let x2 : List ℕ = a ++ (44 ∷ 32 ∷ x3) in
    let x1 : List ℕ = f ++ (32 ∷ x2) in
    let whole : length (line_text m i ++ rest) ≡ length (o ++ (46 ∷ x1)) = ap length (parts_of_line m i rest) in
    omega (
      arith,
      whole,
      length-append o (46 ∷ x1),
      length-append f (32 ∷ x2),
      length-append a (44 ∷ 32 ∷ x3),
      length-append b x4,
      opcode_length i.opcode,
      modifier_short i.modifier,
      operand_short m i.a_mode i.a_number l.a s,
      operand_short m i.b_mode i.b_number l.b s,
    )

-- the lines of the code
lines_short : (m : ℕ) (is : List Instruction) → All (IsBelow m) is → m ≤ 65535 → length (flat_map (line_text m) is) ≤ 24 * length is
lines_short m [] b s = omega arith
lines_short m (i ∷ is) b s =
    let rest : List ℕ = flat_map (line_text m) is in
    let e : length (flat_map (line_text m) (i ∷ is)) ≡ length (line_text m i ++ rest) = ap length (flat_map-cons (line_text m) i is) in
    let l = line_short m i rest (b 0 i (omega arith)) s in
    let r = lines_short m is (λ k d n. b (suc k) d (omega (arith, n))) s in
    omega (arith, e, l, r)

-- the whole load text
pub load_short : (m : ℕ) (w : WarriorView) → w.start < 2 ^ 16 → All (IsBelow m) w.code → m ≤ 65535 → length w.code ≤ 200 → length (load_text m w) ≤ MOST_BYTES
unfolding load_text
load_short m w l b s n =
    let rest : List ℕ = flat_map (line_text m) w.code in
    let e : length (load_text m w) ≡ length (codes "ORG" ++ (32 ∷ (decimal w.start ++ (10 ∷ rest)))) = ap length (parts_of_start w.start rest) in
    let d = decimal_five w.start l in
    let r = lines_short m w.code b s in
    omega (arith, e, length-append (decimal w.start) (10 ∷ rest), d, r, n)
