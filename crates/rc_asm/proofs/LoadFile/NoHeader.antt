-- A load text has no semicolon, and so no header line.
use Rattle.std.proofs.Common.{◌≡◌, ℕ, suc, ◌+◌, ◌-◌, ◌*◌, ◌^◌, ◌<◌, ◌≤◌, Bool, true, false, List, [], ◌∷◌, ◌++◌, drop, Some, None, refl, ◌∙◌, ap, arith, ⊎_elim, append_assoc}
use Rattle.std.specs.Prelude.{All, flat_map, codes, nat_le, nat_lt, if◌then◌else◌, ◌&&◌, ◌==◌, not, unwrap_or}
use Rattle.std.specs.Fmt.{decimal}
use Rattle.std.specs.Char.{is_ascii_digit, to_ascii_lowercase}
use Rattle.std.specs.Str.{all_ascii_digits}
use Rattle.std.proofs.lemmas.Bool.{cases_Bool, and_parts, and_from, and_right, ltb-false, ne_eqb, both_ways}
use Rattle.std.proofs.lemmas.List.Concat.{flat_map-cons}
use Rattle.rc_text.specs.declared.header.Extent.{Extent}
use Rattle.rc_text.specs.Bytes.{LINE_FEED, begins_with_word}
use Rattle.rc_text.specs.Headers.{extent, further_on, header_from}
use Rattle.rc_text.specs.Tokens.{TokenList, tokens_of, tokens_from}
use Rattle.rc_instr.specs.Words.{opcode_text, modifier_text}
use Rattle.rc_instr.specs.LoadText.{mode_text, number_text, operand_text, line_text, start_text, load_text}
use Rattle.rc_instr.specs.Warrior.{IsBelow, WarriorView}
use Rattle.rc_instr.specs.declared.instruction.Opcode.{Opcode}
use Rattle.rc_instr.specs.declared.instruction.Opcode.TheVariants as op
use Rattle.rc_instr.specs.declared.instruction.Modifier.{Modifier}
use Rattle.rc_instr.specs.declared.instruction.Modifier.TheVariants as mod'
use Rattle.rc_instr.specs.declared.instruction.Mode.{Mode}
use Rattle.rc_instr.specs.declared.instruction.Mode.TheVariants as mode
use Rattle.rc_instr.specs.declared.instruction.Instruction.{Instruction}
use Rattle.rc_instr.proofs.Decimals.{decimal_all}
use Rattle.rc_asm.proofs.LoadFile.Pieces.{digit_bounds}
use Rattle.rc_asm.proofs.LoadFile.Rows.{parts_of_line}

-- the first line is its parts
pub parts_of_start : (n : ℕ) (rest : List ℕ) → start_text n ++ rest ≡ codes "ORG" ++ (32 ∷ (decimal n ++ (10 ∷ rest)))
unfolding start_text
parts_of_start n rest = simp append_assoc

-- no byte is a semicolon
abbrev pub is_quiet : List ℕ → Bool
is_quiet [] = true
is_quiet (b ∷ bs) = not (b == 59) && is_quiet bs

-- what does not hold is false
not_false : (t : Bool) → not t ≡ true → t ≡ false
not_false true h = absurd (both_ways (not true) refl h)
not_false false h = refl

-- only a semicolon becomes one in small letters
small_semicolon : (b : ℕ) → (b == 59) ≡ false → (to_ascii_lowercase b == 59) ≡ false
small_semicolon b h = ⊎_elim
    (λ e. ap (λ t. (if t then b else if nat_lt b 91 then b + 32 else b) == 59) e ∙ h)
    (λ e. ⊎_elim
    (λ f. let l : 65 ≤ b = ltb-false b 65 e in
    let n : (b + 32 == 59) ≡ false = ne_eqb (b + 32) 59 (λ q. omega (arith, q, l)) in
    (λ x. (if e x then b else if f x then b + 32 else b) == 59) ∙ n)
    (λ f. (λ x. (if e x then b else if f x then b + 32 else b) == 59) ∙ h)
    (cases_Bool (nat_lt b 91)))
    (cases_Bool (nat_lt b 65))

-- a byte before no header makes none
either_none : (t : Bool) → (if t then None else further_on 1 0 None) ≡ None
either_none true = refl
either_none false = refl

-- a text without semicolons has no header
no_header : (bs : List ℕ) (begins : Bool) → is_quiet bs ≡ true → header_from bs begins false ≡ None
no_header [] begins q = refl
no_header (b ∷ bs) begins q =
    let p = and_parts (not (b == 59)) (is_quiet bs) q in
    let s : (to_ascii_lowercase b == 59) ≡ false = small_semicolon b (not_false (b == 59) p.0) in
    let n : begins_with_word (codes ";redcode") (b ∷ bs) ≡ false = ap (λ t. t && begins_with_word (codes "redcode") bs) s in
    let here : (begins && begins_with_word (codes ";redcode") (b ∷ bs)) ≡ false = and_right begins _ n in
    ap (λ t. if b == LINE_FEED then (if t then Some (extent 1 1) else further_on 1 1 (header_from bs true false)) else further_on 1 0 (header_from bs false t)) here
    ∙ ap (λ o. if b == LINE_FEED then further_on 1 1 o else further_on 1 0 (header_from bs false false)) (no_header bs true p.1)
    ∙ ap (λ o. if b == LINE_FEED then None else further_on 1 0 o) (no_header bs false p.1)
    ∙ either_none (b == LINE_FEED)

-- two texts without semicolons have none together
quiet_append : (as' bs : List ℕ) → is_quiet as' ≡ true → is_quiet bs ≡ true → is_quiet (as' ++ bs) ≡ true
quiet_append [] bs p q = q
quiet_append (a ∷ as') bs p q = let k = and_parts (not (a == 59)) (is_quiet as') p in and_from _ _ k.0 (quiet_append as' bs k.1 q)

-- digits have no semicolon
quiet_digits : (ds : List ℕ) → all_ascii_digits ds ≡ true → is_quiet ds ≡ true
quiet_digits [] h = refl
quiet_digits (d ∷ ds) h =
    let q = and_parts (is_ascii_digit d) (all_ascii_digits ds) h in
    let g = digit_bounds d q.0 in
    let n : (d == 59) ≡ false = ne_eqb d 59 (λ e. omega (arith, e, g.high)) in
    and_from _ _ (ap not n) (quiet_digits ds q.1)

-- an opcode has no semicolon
quiet_opcode : (o : Opcode) → is_quiet (opcode_text o) ≡ true
quiet_opcode op.Dat = refl
quiet_opcode op.Mov = refl
quiet_opcode op.Add = refl
quiet_opcode op.Sub = refl
quiet_opcode op.Mul = refl
quiet_opcode op.Div = refl
quiet_opcode op.Mod = refl
quiet_opcode op.Jmp = refl
quiet_opcode op.Jmz = refl
quiet_opcode op.Jmn = refl
quiet_opcode op.Djn = refl
quiet_opcode op.Seq = refl
quiet_opcode op.Sne = refl
quiet_opcode op.Slt = refl
quiet_opcode op.Spl = refl
quiet_opcode op.Nop = refl

-- a modifier has no semicolon
quiet_modifier : (f : Modifier) → is_quiet (modifier_text f) ≡ true
quiet_modifier mod'.A = refl
quiet_modifier mod'.B = refl
quiet_modifier mod'.AB = refl
quiet_modifier mod'.BA = refl
quiet_modifier mod'.F = refl
quiet_modifier mod'.X = refl
quiet_modifier mod'.I = refl

-- a mode has no semicolon
quiet_mode : (m : Mode) → is_quiet (mode_text m) ≡ true
quiet_mode mode.Immediate = refl
quiet_mode mode.Direct = refl
quiet_mode mode.AIndirect = refl
quiet_mode mode.BIndirect = refl
quiet_mode mode.APredecrement = refl
quiet_mode mode.BPredecrement = refl
quiet_mode mode.APostincrement = refl
quiet_mode mode.BPostincrement = refl

-- a number has no semicolon
quiet_number : (m k : ℕ) → k < m → m ≤ 65535 → is_quiet (number_text m k) ≡ true
unfolding number_text
quiet_number m k l s = ⊎_elim
    (λ e. ap (λ b. is_quiet (if b then decimal k else codes "-" ++ decimal (m - k))) e ∙ quiet_digits (decimal k) (decimal_all k (omega arith)))
    (λ e. ap (λ b. is_quiet (if b then decimal k else codes "-" ++ decimal (m - k))) e ∙ quiet_digits (decimal (m - k)) (decimal_all (m - k) (omega arith)))
    (cases_Bool (nat_le (2 * k) m))

-- an operand has no semicolon
quiet_operand : (m : ℕ) (mode : Mode) (k : ℕ) → k < m → m ≤ 65535 → is_quiet (operand_text m mode k) ≡ true
unfolding operand_text
quiet_operand m mode k l s = quiet_append (mode_text mode) (number_text m k) (quiet_mode mode) (quiet_number m k l s)

-- a line before a text without semicolons adds none
quiet_line : (m : ℕ) (i : Instruction) (rest : List ℕ) → IsBelow m i → m ≤ 65535 → is_quiet rest ≡ true → is_quiet (line_text m i ++ rest) ≡ true
quiet_line m i rest l s q =
    ap is_quiet (parts_of_line m i rest)
    ∙ quiet_append (opcode_text i.opcode) _ (quiet_opcode i.opcode)
    (quiet_append (modifier_text i.modifier) _ (quiet_modifier i.modifier)
    (quiet_append (operand_text m i.a_mode i.a_number) _ (quiet_operand m i.a_mode i.a_number l.a s)
    (quiet_append (operand_text m i.b_mode i.b_number) _ (quiet_operand m i.b_mode i.b_number l.b s) q)))

-- the lines of the code have no semicolon
quiet_lines : (m : ℕ) (is : List Instruction) → All (IsBelow m) is → m ≤ 65535 → is_quiet (flat_map (line_text m) is) ≡ true
quiet_lines m [] b s = refl
quiet_lines m (i ∷ is) b s =
    ap is_quiet (flat_map-cons (line_text m) i is)
    ∙ quiet_line m i (flat_map (line_text m) is) (b 0 i (omega arith)) s (quiet_lines m is (λ k d n. b (suc k) d (omega (arith, n))) s)

-- a load text has no semicolon
quiet_load : (m : ℕ) (w : WarriorView) → w.start < 2 ^ 16 → All (IsBelow m) w.code → m ≤ 65535 → is_quiet (load_text m w) ≡ true
unfolding load_text
quiet_load m w l b s =
    ap is_quiet (parts_of_start w.start (flat_map (line_text m) w.code))
    ∙ quiet_append (decimal w.start) _ (quiet_digits (decimal w.start) (decimal_all w.start (omega (arith, l)))) (quiet_lines m w.code b s)

-- the tokens after a header
abbrev after_header : List ℕ → Extent → TokenList
after_header text h = tokens_from (drop h.bytes text) 0 true h.bytes (1 + h.lines)

-- without a header, the tokens begin with the text
pub tokens_of_load : (m : ℕ) (w : WarriorView) → w.start < 2 ^ 16 → All (IsBelow m) w.code → m ≤ 65535 → tokens_of (load_text m w) ≡ tokens_from (load_text m w) 0 true 0 1
tokens_of_load m w l b s = ap (λ o. after_header (load_text m w) (unwrap_or o (extent 0 0))) (no_header (load_text m w) true (quiet_load m w l b s))
