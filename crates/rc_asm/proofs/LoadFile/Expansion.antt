-- A load text expands to its own lines.
use Rattle.std.proofs.Common.{◌≡◌, ℕ, ◌≤◌, List, [], ◌∷◌, ◌++◌, length, None, refl, ◌∙◌, ap, arith, length-append, subst}
use Rattle.rc_text.specs.declared.token.Token.{Token}
use Rattle.rc_text.specs.Tokens.{tokens_of}
use Rattle.rc_instr.specs.Rules.{RulesView}
use Rattle.rc_instr.specs.Warrior.{WarriorView}
use Rattle.rc_instr.specs.declared.instruction.Instruction.{Instruction}
use Rattle.rc_text.specs.Gaps.{is_line_end}
use Rattle.rc_expand.specs.Expansion.{IsExpansion}
use Rattle.rc_expand.proofs.PlainRawLines.{AnOpcode, AStart, PlainLine, HaveNoEnd, IsPlain, ArePlain, plain_tokens, plain_lines}
use Rattle.rc_expand.proofs.PlainLines.{plain_expands}
use Rattle.rc_asm.proofs.LoadFile.Printed.{AreNumber, Plain, Below, Row, row_tokens, rows_tokens, Opening, Printed, IsPrinted, ArePrinted, IsStart, IsPrint, printed_tokens, start_line, code_line, code_lines, printed_lines}

-- ---- the lines of a load text are plain

-- an instruction's line
abbrev plain_row : Instruction → Row → PlainLine
plain_row i r = record { word = AnOpcode i.opcode; first = r.opcode; others = r.dot ∷ r.modifier ∷ ((r.a_sign ∷ r.a_number) ++ (r.comma ∷ r.b_sign ∷ r.b_number)); end = r.end }

-- the lines of the code
abbrev plain_rows : List Instruction → List Row → List PlainLine
plain_rows [] rs = []
plain_rows (i ∷ is) [] = []
plain_rows (i ∷ is) (r ∷ rs) = plain_row i r ∷ plain_rows is rs

-- the first line
abbrev plain_start : Opening → PlainLine
plain_start o = record { word = AStart; first = o.word; others = o.number ∷ []; end = o.end }

-- all lines
abbrev plain_print : WarriorView → Printed → List PlainLine
plain_print w p = plain_start p.opening ∷ plain_rows w.code p.rows

-- no line ends among the tokens of a number
number_no_end : (m n : ℕ) (ts : List Token) → AreNumber m n ts → HaveNoEnd ts
number_no_end m n ts (Plain t e) = (ap is_line_end e, tt)
number_no_end m n ts (Below s t k e f g) = (ap is_line_end e, (ap is_line_end f, tt))

-- no line ends among the tokens of two parts
both_no_end : (ts us : List Token) → HaveNoEnd ts → HaveNoEnd us → HaveNoEnd (ts ++ us)
both_no_end [] us h k = k
both_no_end (t ∷ ts) us h k = (h.0, both_no_end ts us h.1 k)

-- a number has one token or two
number_short : (m n : ℕ) (ts : List Token) → AreNumber m n ts → length ts ≤ 2
number_short m n ts (Plain t e) = omega arith
number_short m n ts (Below s t k e f g) = omega arith

-- an instruction's line is plain, and has at most nine tokens
row_plain : (source : List ℕ) (m : ℕ) (i : Instruction) (r : Row) → IsPrinted source m i r → IsPlain source (plain_row i r)
row_plain source m i r p =
    let a = number_no_end m i.a_number r.a_number p.a_number in
    let b = number_no_end m i.b_number r.b_number p.b_number in
    let la = number_short m i.a_number r.a_number p.a_number in
    let lb = number_short m i.b_number r.b_number p.b_number in
    record {
      kind = p.opcode.kind;
      joined = p.opcode.joined;
      bytes = p.opcode.bytes;
      others = (ap is_line_end p.dot, (ap is_line_end p.modifier.kind, both_no_end (r.a_sign ∷ r.a_number) (r.comma ∷ r.b_sign ∷ r.b_number) (ap is_line_end p.a_sign, a) (ap is_line_end p.comma, (ap is_line_end p.b_sign, b))));
      end = ap is_line_end p.end;
      short = omega (arith, la, lb, length-append (r.a_sign ∷ r.a_number) (r.comma ∷ r.b_sign ∷ r.b_number));
    }

-- all lines of the code are plain
rows_plain : (source : List ℕ) (m : ℕ) (is : List Instruction) (rs : List Row) → ArePrinted source m is rs → ArePlain source (plain_rows is rs)
rows_plain source m [] rs p = tt
rows_plain source m (i ∷ is) [] p = absurd p
rows_plain source m (i ∷ is) (r ∷ rs) p = (row_plain source m i r p.0, rows_plain source m is rs p.1)

-- the first line is plain
start_plain : (source : List ℕ) (start : ℕ) (o : Opening) → IsStart source start o → IsPlain source (plain_start o)
start_plain source start o h = record { kind = h.word.kind; joined = h.word.joined; bytes = h.word.bytes; others = (ap is_line_end h.number, tt); end = ap is_line_end h.end; short = omega arith }

-- ---- the tokens and lines, and how many they are

-- the tokens of the code's lines
rows_tokens_same : (source : List ℕ) (m : ℕ) (is : List Instruction) (rs : List Row) → ArePrinted source m is rs → rows_tokens rs ≡ plain_tokens (plain_rows is rs)
rows_tokens_same source m [] [] p = refl
rows_tokens_same source m [] (r ∷ rs) p = absurd p
rows_tokens_same source m (i ∷ is) [] p = absurd p
rows_tokens_same source m (i ∷ is) (r ∷ rs) p = ap (λ ts. row_tokens r ++ (r.end ∷ ts)) (rows_tokens_same source m is rs p.1)

-- the lines that the tokens make
rows_lines_same : (source : List ℕ) (m : ℕ) (is : List Instruction) (rs : List Row) → ArePrinted source m is rs → plain_lines (plain_rows is rs) ≡ code_lines rs
rows_lines_same source m [] [] p = refl
rows_lines_same source m [] (r ∷ rs) p = absurd p
rows_lines_same source m (i ∷ is) [] p = absurd p
rows_lines_same source m (i ∷ is) (r ∷ rs) p = ap (λ ls. code_line r ∷ ls) (rows_lines_same source m is rs p.1)

-- there are at most as many lines as instructions
rows_no_more : (is : List Instruction) (rs : List Row) → length (plain_rows is rs) ≤ length is
rows_no_more [] rs = omega arith
rows_no_more (i ∷ is) [] = omega arith
rows_no_more (i ∷ is) (r ∷ rs) = let h = rows_no_more is rs in omega (arith, h)

-- a text with the tokens of a load text expands to its own lines
pub print_expands : (source : List ℕ) (rules : RulesView) (m : ℕ) (w : WarriorView) (p : Printed) → IsPrint source m w p → length w.code ≤ 200 → tokens_of source ≡ printed_tokens p → IsExpansion source [] rules (printed_lines p)
print_expands source rules m w p h s e =
    let o = p.opening in
    let n = rows_no_more w.code p.rows in
    subst (λ ls. IsExpansion source [] rules (start_line o ∷ ls)) (rows_lines_same source m w.code p.rows h.code)
    (plain_expands source rules (plain_print w p) (start_plain source w.start o h.start, rows_plain source m w.code p.rows h.code) (omega (arith, n, s))
    (e ∙ ap (λ ts. record { tokens = o.word ∷ o.number ∷ o.end ∷ ts; ending = None }) (rows_tokens_same source m w.code p.rows h.code)))
