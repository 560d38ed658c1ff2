-- The tokens of a printed line.
use Rattle.std.proofs.Common.{◌≡◌, ℕ, zero, suc, ◌+◌, ◌-◌, ◌*◌, ◌^◌, ◌<◌, ◌≤◌, Bool, true, false, List, [], ◌∷◌, ◌++◌, length, take, drop, refl, sym, ◌∙◌, ap, arith, append_assoc, ⊎_elim, subst, length-append}
use Rattle.std.specs.Prelude.{nat_le, if◌then◌else◌, ◌==◌, codes}
use Rattle.std.specs.Fmt.{decimal}
use Rattle.std.specs.Char.{is_ascii_digit}
use Rattle.std.specs.Str.{all_ascii_digits}
use Rattle.std.proofs.lemmas.Bool.{cases_Bool, ne_eqb, and_parts}
use Rattle.std.proofs.Math.Seq.{take-append_seam, drop-append_seam}
use Rattle.rc_text.specs.declared.token.Sign.TheVariants.{Dot, Comma, Minus}
use Rattle.rc_text.specs.declared.token.Kind.TheVariants.{Name, Number, LineEnd, Sign as SignOf}
use Rattle.rc_text.specs.declared.token.Token.{Token}
use Rattle.rc_text.specs.declared.lexeme.Lexeme.TheVariants.{Token as TokenOf}
use Rattle.rc_text.specs.Tokens.{TokenList, lexeme_of, tokens_from, with_token, token_of}
use Rattle.rc_instr.specs.Digits.{NoDigitFirst}
use Rattle.rc_instr.specs.Words.{opcode_text, modifier_text}
use Rattle.rc_instr.specs.LoadText.{mode_text, number_text, operand_text, line_text}
use Rattle.rc_instr.specs.declared.instruction.Opcode.{Opcode}
use Rattle.rc_instr.specs.declared.instruction.Opcode.TheVariants as op
use Rattle.rc_instr.specs.declared.instruction.Modifier.{Modifier}
use Rattle.rc_instr.specs.declared.instruction.Modifier.TheVariants as mod'
use Rattle.rc_instr.specs.declared.instruction.Mode.{Mode}
use Rattle.rc_instr.specs.declared.instruction.Mode.TheVariants as mode
use Rattle.rc_instr.specs.declared.instruction.Instruction.{Instruction}
use Rattle.rc_instr.proofs.Decimals.{decimal_some, decimal_all}
use Rattle.rc_asm.proofs.LoadFile.Printed.{mode_sign, IsWord, AreNumber, Plain, Below, Row, row_tokens, IsPrinted}
use Rattle.rc_asm.proofs.LoadFile.Pieces.{front, number_word, digit_bounds}

-- tokens before others
abbrev pub onto : List Token → TokenList → TokenList
onto ts l = record { tokens = ts ++ l.tokens; ending = l.ending }

-- the byte that follows no sign of two bytes
abbrev IsPlainNext : List ℕ → Type 0
IsPlainNext [] = Unit {0}
IsPlainNext (b ∷ bs) = (b == 61) ≡ false

-- a mode is one token
sign_word : (m : Mode) (at_line_start : Bool) (text : List ℕ) → 0 < length text → IsPlainNext text → lexeme_of at_line_start (mode_text m ++ text) ≡ TokenOf 1 (SignOf (mode_sign m))
sign_word m at_line_start [] s h = absurd (omega (arith, s))
sign_word mode.Immediate at_line_start (b ∷ bs) s h = refl
sign_word mode.Direct at_line_start (b ∷ bs) s h = refl
sign_word mode.AIndirect at_line_start (b ∷ bs) s h = refl
sign_word mode.BIndirect at_line_start (b ∷ bs) s h = refl
sign_word mode.APredecrement at_line_start (b ∷ bs) s h = refl
sign_word mode.BPredecrement at_line_start (b ∷ bs) s h = rw h refl
sign_word mode.APostincrement at_line_start (b ∷ bs) s h = refl
sign_word mode.BPostincrement at_line_start (b ∷ bs) s h = rw h refl

-- digits may follow a sign
digits_plain : (ds rest : List ℕ) → 0 < length ds → all_ascii_digits ds ≡ true → IsPlainNext (ds ++ rest)
digits_plain [] rest s h = absurd (omega (arith, s))
digits_plain (d ∷ ds) rest s h =
    let q = and_parts (is_ascii_digit d) (all_ascii_digits ds) h in
    let g = digit_bounds d q.0 in
    ne_eqb d 61 (λ e. omega (arith, e, g.high))

-- the tokens of a number, and where they end
pub record NumberScan (m k : ℕ) (text rest : List ℕ) (at line : ℕ) : Type 0 where
  pub tokens : List Token
  pub shown : AreNumber m k tokens
  pub scan : (at_line_start : Bool) → tokens_from (text ++ rest) 0 at_line_start at line ≡ onto tokens (tokens_from rest 0 false (at + length text) line)
  pub some : 0 < length text
  pub plain : IsPlainNext (text ++ rest)

-- the tokens of a number without a minus sign
plain_scan : (m k : ℕ) (rest : List ℕ) (at line : ℕ) → k < 2 ^ 16 → NoDigitFirst rest → NumberScan m k (decimal k) rest at line
plain_scan m k rest at line l h = record {
  tokens = token_of (Number k) at (length (decimal k)) line ∷ [];
  shown = Plain _ refl;
  scan = λ at_line_start. front (decimal k) rest (Number k) at_line_start at line (decimal_some k (omega (arith, l))) (number_word k rest at_line_start l h);
  some = decimal_some k (omega (arith, l));
  plain = digits_plain (decimal k) rest (decimal_some k (omega (arith, l))) (decimal_all k (omega (arith, l)));
}

-- the tokens of a number with a minus sign
below_scan : (m k j : ℕ) (rest : List ℕ) (at line : ℕ) → j < 2 ^ 16 → 0 < j → j + k ≡ m → NoDigitFirst rest → NumberScan m k (45 ∷ decimal j) rest at line
below_scan m k zero rest at line l s e h = absurd (omega (arith, s))
below_scan m k (suc j) rest at line l s e h = record {
  tokens = token_of (SignOf Minus) at 1 line ∷ token_of (Number (suc j)) (at + 1) (length (decimal (suc j))) line ∷ [];
  shown = Below _ _ j refl refl e;
  scan = λ at_line_start.
      ap (with_token (token_of (SignOf Minus) at 1 line)) (front (decimal (suc j)) rest (Number (suc j)) false (at + 1) line (decimal_some (suc j) (omega (arith, l))) (number_word (suc j) rest false l h)
      ∙ ap (λ n. with_token (token_of (Number (suc j)) (at + 1) (length (decimal (suc j))) line) (tokens_from rest 0 false n line)) (omega arith));
  some = omega arith;
  plain = refl;
}

-- the tokens of a printed number
pub number_scan : (m k : ℕ) (rest : List ℕ) (at line : ℕ) → k < m → m ≤ 65535 → NoDigitFirst rest → NumberScan m k (number_text m k) rest at line
unfolding number_text
number_scan m k rest at line l s h =
    ⊎_elim
    (λ e. subst (λ t. NumberScan m k t rest at line) (sym (ap (λ b. if b then decimal k else codes "-" ++ decimal (m - k)) e)) (plain_scan m k rest at line (omega arith) h))
    (λ e. subst (λ t. NumberScan m k t rest at line) (sym (ap (λ b. if b then decimal k else codes "-" ++ decimal (m - k)) e)) (below_scan m k (m - k) rest at line (omega arith) (omega arith) (omega arith) h))
    (cases_Bool (nat_le (2 * k) m))

-- a mode is one sign
pub mode_len : (m : Mode) → length (mode_text m) ≡ 1
mode_len mode.Immediate = refl
mode_len mode.Direct = refl
mode_len mode.AIndirect = refl
mode_len mode.BIndirect = refl
mode_len mode.APredecrement = refl
mode_len mode.BPredecrement = refl
mode_len mode.APostincrement = refl
mode_len mode.BPostincrement = refl

-- the tokens of an operand
pub record OperandScan (m : ℕ) (mode : Mode) (k : ℕ) (rest : List ℕ) (at line : ℕ) : Type 0 where
  pub sign : Token
  pub number : List Token
  pub sign_kind : sign.kind ≡ SignOf (mode_sign mode)
  pub shown : AreNumber m k number
  pub scan : (at_line_start : Bool) → tokens_from (operand_text m mode k ++ rest) 0 at_line_start at line ≡ onto (sign ∷ number) (tokens_from rest 0 false (at + length (operand_text m mode k)) line)

-- a text is not empty if its front is not
some_append : (xs ys : List ℕ) → 0 < length xs → 0 < length (xs ++ ys)
some_append xs ys h = omega (arith, length-append xs ys, h)

-- each operand has its tokens
pub operand_scan : (m : ℕ) (mode : Mode) (k : ℕ) (rest : List ℕ) (at line : ℕ) → k < m → m ≤ 65535 → NoDigitFirst rest → OperandScan m mode k rest at line
unfolding operand_text
operand_scan m mode k rest at line l s h =
    let p = mode_text mode in
    let n = number_scan m k rest (at + length p) line l s h in
    let t = token_of (SignOf (mode_sign mode)) at (length p) line in
    let some : 0 < length p = omega (arith, mode_len mode) in
    let piece : (at_line_start : Bool) → lexeme_of at_line_start (p ++ (number_text m k ++ rest)) ≡ TokenOf (length p) (SignOf (mode_sign mode)) =
    λ at_line_start. sign_word mode at_line_start (number_text m k ++ rest) (some_append (number_text m k) rest n.some) n.plain ∙ ap (λ x. TokenOf x (SignOf (mode_sign mode))) (sym (mode_len mode)) in
    let place : at + length p + length (number_text m k) ≡ at + length (p ++ number_text m k) = omega (arith, length-append p (number_text m k)) in
    record {
      sign = t;
      number = n.tokens;
      sign_kind = refl;
      shown = n.shown;
      scan = λ at_line_start.
          ap (λ x. tokens_from x 0 at_line_start at line) (append_assoc p (number_text m k) rest)
          ∙ front p (number_text m k ++ rest) (SignOf (mode_sign mode)) at_line_start at line some (piece at_line_start)
          ∙ ap (with_token t) (n.scan false)
          ∙ ap (λ x. onto (t ∷ n.tokens) (tokens_from rest 0 false x line)) place;
    }

-- ---- words

-- an opcode before a dot is one token
opcode_word : (o : Opcode) (at_line_start : Bool) (rest : List ℕ) → lexeme_of at_line_start (opcode_text o ++ (46 ∷ rest)) ≡ TokenOf (length (opcode_text o)) Name
opcode_word op.Dat at_line_start rest = refl
opcode_word op.Mov at_line_start rest = refl
opcode_word op.Add at_line_start rest = refl
opcode_word op.Sub at_line_start rest = refl
opcode_word op.Mul at_line_start rest = refl
opcode_word op.Div at_line_start rest = refl
opcode_word op.Mod at_line_start rest = refl
opcode_word op.Jmp at_line_start rest = refl
opcode_word op.Jmz at_line_start rest = refl
opcode_word op.Jmn at_line_start rest = refl
opcode_word op.Djn at_line_start rest = refl
opcode_word op.Seq at_line_start rest = refl
opcode_word op.Sne at_line_start rest = refl
opcode_word op.Slt at_line_start rest = refl
opcode_word op.Spl at_line_start rest = refl
opcode_word op.Nop at_line_start rest = refl

-- a modifier before a blank is one token
modifier_word : (f : Modifier) (at_line_start : Bool) (rest : List ℕ) → lexeme_of at_line_start (modifier_text f ++ (32 ∷ rest)) ≡ TokenOf (length (modifier_text f)) Name
modifier_word mod'.A at_line_start rest = refl
modifier_word mod'.B at_line_start rest = refl
modifier_word mod'.AB at_line_start rest = refl
modifier_word mod'.BA at_line_start rest = refl
modifier_word mod'.F at_line_start rest = refl
modifier_word mod'.X at_line_start rest = refl
modifier_word mod'.I at_line_start rest = refl

-- an opcode has three letters
pub opcode_length : (o : Opcode) → length (opcode_text o) ≡ 3
opcode_length op.Dat = refl
opcode_length op.Mov = refl
opcode_length op.Add = refl
opcode_length op.Sub = refl
opcode_length op.Mul = refl
opcode_length op.Div = refl
opcode_length op.Mod = refl
opcode_length op.Jmp = refl
opcode_length op.Jmz = refl
opcode_length op.Jmn = refl
opcode_length op.Djn = refl
opcode_length op.Seq = refl
opcode_length op.Sne = refl
opcode_length op.Slt = refl
opcode_length op.Spl = refl
opcode_length op.Nop = refl

-- an opcode is not empty
opcode_some : (o : Opcode) → 0 < length (opcode_text o)
opcode_some o = omega (arith, opcode_length o)

-- a modifier is not empty
modifier_some : (f : Modifier) → 0 < length (modifier_text f)
modifier_some mod'.A = omega arith
modifier_some mod'.B = omega arith
modifier_some mod'.AB = omega arith
modifier_some mod'.BA = omega arith
modifier_some mod'.F = omega arith
modifier_some mod'.X = omega arith
modifier_some mod'.I = omega arith

-- the rest of a source at a place
pub record IsAt (source rest : List ℕ) (at : ℕ) : Type 0 where
  pub before : List ℕ
  pub whole : source ≡ before ++ rest
  pub place : at ≡ length before

-- the rest of a source after a piece
pub further : (source p rest : List ℕ) (at : ℕ) → IsAt source (p ++ rest) at → IsAt source rest (at + length p)
further source p rest at h = record {
  before = h.before ++ p;
  whole = h.whole ∙ sym (append_assoc h.before p rest);
  place = omega (arith, h.place, length-append h.before p);
}

-- a name token at a place is a word of its text
pub word_there : (source p rest : List ℕ) (at line : ℕ) → IsAt source (p ++ rest) at → IsWord source p (token_of Name at (length p) line)
word_there source p rest at line h =
    let n : at + length p - at ≡ length p = omega arith in
    record {
      kind = refl;
      joined = refl;
      bytes = (λ x. take (n x) (drop (h.place x) (h.whole x))) ∙ ap (take (length p)) (drop-append_seam h.before (p ++ rest)) ∙ take-append_seam p rest;
    }

-- a line is its parts
pub parts_of_line : (m : ℕ) (i : Instruction) (rest : List ℕ)
    → line_text m i ++ rest ≡ opcode_text i.opcode ++ (46 ∷ (modifier_text i.modifier ++ (32 ∷ (operand_text m i.a_mode i.a_number ++ (44 ∷ (32 ∷ (operand_text m i.b_mode i.b_number ++ (10 ∷ rest))))))))
unfolding line_text
parts_of_line m i rest = simp append_assoc

-- two parts and a last token before others
regroup : (xs ys : List Token) (t : Token) (zs : List Token) → xs ++ (ys ++ (t ∷ zs)) ≡ ((xs ++ ys) ++ (t ∷ [])) ++ zs
regroup xs ys t zs = simp append_assoc

-- the tokens of a printed line, and where they end
pub record RowScan (source : List ℕ) (m : ℕ) (i : Instruction) (rest : List ℕ) (at line : ℕ) : Type 0 where
  pub row : Row
  pub after : ℕ
  pub printed : IsPrinted source m i row
  pub place : IsAt source rest after
  pub scan : tokens_from (line_text m i ++ rest) 0 true at line ≡ onto (row_tokens row ++ (row.end ∷ [])) (tokens_from rest 0 true after (line + 1))

-- each printed line has its tokens
pub row_scan : (source : List ℕ) (m : ℕ) (i : Instruction) (rest : List ℕ) (at line : ℕ) → i.a_number < m → i.b_number < m → m ≤ 65535 → IsAt source (line_text m i ++ rest) at → RowScan source m i rest at line
row_scan source m i rest at line la lb s h =
    let o = opcode_text i.opcode in
    let f = modifier_text i.modifier in
    let a = operand_text m i.a_mode i.a_number in
    let b = operand_text m i.b_mode i.b_number in
    let x4 : List ℕ = 10 ∷ rest in
    let x3 : List ℕ = b ++ x4 in
    let x2 : List ℕ = a ++ (44 ∷ 32 ∷ x3) in
    let x1 : List ℕ = f ++ (32 ∷ x2) in
    let h0 = subst (λ t. IsAt source t at) (parts_of_line m i rest) h in
    let a1 = at + length o in
    let h1 = further source o (46 ∷ x1) at h0 in
    let h2 = further source (46 ∷ []) x1 a1 h1 in
    let a2 = a1 + 1 in
    let h3 = further source f (32 ∷ x2) a2 h2 in
    let a3 = a2 + length f in
    let h4 = further source (32 ∷ []) x2 a3 h3 in
    let a4 = a3 + 1 in
    let h5 = further source a (44 ∷ 32 ∷ x3) a4 h4 in
    let a5 = a4 + length a in
    let h6 = further source (32 ∷ []) x3 (a5 + 1) (further source (44 ∷ []) (32 ∷ x3) a5 h5) in
    let a6 = a5 + 1 + 1 in
    let h7 = further source b x4 a6 h6 in
    let a7 = a6 + length b in
    let h8 = further source (10 ∷ []) rest a7 h7 in
    let sa = operand_scan m i.a_mode i.a_number (44 ∷ 32 ∷ x3) a4 line la s refl in
    let sb = operand_scan m i.b_mode i.b_number x4 a6 line lb s refl in
    let t_opcode = token_of Name at (length o) line in
    let t_dot = token_of (SignOf Dot) a1 1 line in
    let t_modifier = token_of Name a2 (length f) line in
    let t_comma = token_of (SignOf Comma) a5 1 line in
    let t_end = token_of LineEnd a7 1 line in
    let l : TokenList = tokens_from rest 0 true (a7 + 1) (line + 1) in
    let ta : List Token = sa.sign ∷ sa.number in
    let tb : List Token = t_comma ∷ sb.sign ∷ sb.number in
    record {
      row = record { opcode = t_opcode; dot = t_dot; modifier = t_modifier; a_sign = sa.sign; a_number = sa.number; comma = t_comma; b_sign = sb.sign; b_number = sb.number; end = t_end };
      after = a7 + 1;
      printed = record {
        opcode = word_there source o (46 ∷ x1) at line h0;
        dot = refl;
        modifier = word_there source f (32 ∷ x2) a2 line h2;
        a_sign = sa.sign_kind;
        a_number = sa.shown;
        comma = refl;
        b_sign = sb.sign_kind;
        b_number = sb.shown;
        end = refl;
      };
      place = h8;
      scan = ap (λ t. tokens_from t 0 true at line) (parts_of_line m i rest)
          ∙ front o (46 ∷ x1) Name true at line (opcode_some i.opcode) (opcode_word i.opcode true x1)
          ∙ ap (λ r. with_token t_opcode (with_token t_dot r)) (front f (32 ∷ x2) Name false a2 line (modifier_some i.modifier) (modifier_word i.modifier false x2))
          ∙ ap (λ r. with_token t_opcode (with_token t_dot (with_token t_modifier r))) (sa.scan false)
          ∙ ap (λ r. with_token t_opcode (with_token t_dot (with_token t_modifier (onto ta (with_token t_comma r))))) (sb.scan false)
          ∙ ap (λ ts. record { tokens = t_opcode ∷ t_dot ∷ t_modifier ∷ ts; ending = l.ending }) (regroup ta tb t_end l.tokens);
    }
