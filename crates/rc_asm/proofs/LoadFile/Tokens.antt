-- The tokens of a load text.
use Rattle.std.proofs.Common.{◌≡◌, ℕ, suc, ◌+◌, ◌^◌, ◌<◌, ◌≤◌, true, false, List, [], ◌∷◌, ◌++◌, length, None, refl, ◌∙◌, ap, arith, append_assoc, subst}
use Rattle.std.specs.Prelude.{All, flat_map, codes}
use Rattle.std.specs.Fmt.{decimal}
use Rattle.std.proofs.lemmas.List.Concat.{flat_map-cons}
use Rattle.rc_text.specs.declared.token.Kind.TheVariants.{Name, Number, LineEnd}
use Rattle.rc_text.specs.Tokens.{tokens_of, tokens_from, with_token, token_of}
use Rattle.rc_instr.specs.LoadText.{line_text, start_text, load_text}
use Rattle.rc_instr.specs.Warrior.{IsBelow, WarriorView}
use Rattle.rc_instr.specs.declared.instruction.Instruction.{Instruction}
use Rattle.rc_instr.proofs.Decimals.{decimal_some}
use Rattle.rc_asm.proofs.LoadFile.Printed.{Row, Opening, Printed, ArePrinted, IsStart, IsPrint, row_tokens, rows_tokens, printed_tokens}
use Rattle.rc_asm.proofs.LoadFile.Pieces.{front, number_word}
use Rattle.rc_asm.proofs.LoadFile.Rows.{onto, IsAt, further, word_there, row_scan}
use Rattle.rc_asm.proofs.LoadFile.NoHeader.{parts_of_start, tokens_of_load}

-- the tokens of the first line, and where they end
record StartScan (source : List ℕ) (n : ℕ) (rest : List ℕ) (at line : ℕ) : Type 0 where
  opening : Opening
  after : ℕ
  printed : IsStart source n opening
  place : IsAt source rest after
  scan : tokens_from (start_text n ++ rest) 0 true at line ≡ onto (opening.word ∷ opening.number ∷ opening.end ∷ []) (tokens_from rest 0 true after (line + 1))

-- each start has its tokens
start_scan : (source : List ℕ) (n : ℕ) (rest : List ℕ) (at line : ℕ) → n < 2 ^ 16 → IsAt source (start_text n ++ rest) at → StartScan source n rest at line
start_scan source n rest at line l h =
    let o = codes "ORG" in
    let d = decimal n in
    let x2 : List ℕ = 10 ∷ rest in
    let x1 : List ℕ = d ++ x2 in
    let h0 = subst (λ t. IsAt source t at) (parts_of_start n rest) h in
    let a1 = at + length o in
    let h1 = further source o (32 ∷ x1) at h0 in
    let h2 = further source (32 ∷ []) x1 a1 h1 in
    let a2 = a1 + 1 in
    let h3 = further source d x2 a2 h2 in
    let a3 = a2 + length d in
    let t_word = token_of Name at 3 line in
    let t_number = token_of (Number n) a2 (length d) line in
    let t_end = token_of LineEnd a3 1 line in
    record {
      opening = record { word = t_word; number = t_number; end = t_end };
      after = a3 + 1;
      printed = record { word = word_there source o (32 ∷ x1) at line h0; number = refl; end = refl };
      place = further source (10 ∷ []) rest a3 h3;
      scan = ap (λ t. tokens_from t 0 true at line) (parts_of_start n rest)
          ∙ front o (32 ∷ x1) Name true at line (omega arith) refl
          ∙ ap (with_token t_word) (front d x2 (Number n) false a2 line (decimal_some n (omega (arith, l))) (number_word n x2 false l refl));
    }

-- the tokens of the lines from a place on
record RowsScan (source : List ℕ) (m : ℕ) (is : List Instruction) (at line : ℕ) : Type 0 where
  rows : List Row
  printed : ArePrinted source m is rows
  scan : tokens_from (flat_map (line_text m) is) 0 true at line ≡ record { tokens = rows_tokens rows; ending = None }

-- the code has its tokens
rows_scan : (source : List ℕ) (m : ℕ) (is : List Instruction) (at line : ℕ) → All (IsBelow m) is → m ≤ 65535 → IsAt source (flat_map (line_text m) is) at → RowsScan source m is at line
rows_scan source m [] at line b s h = record { rows = []; printed = tt; scan = refl }
rows_scan source m (i ∷ is) at line b s h =
    let low : IsBelow m i = b 0 i (omega arith) in
    let rest : List ℕ = flat_map (line_text m) is in
    let e = flat_map-cons (line_text m) i is in
    let l = row_scan source m i rest at line low.a low.b s (subst (λ t. IsAt source t at) e h) in
    let r = rows_scan source m is l.after (line + 1) (λ k d n. b (suc k) d (omega (arith, n))) s l.place in
    record {
      rows = l.row ∷ r.rows;
      printed = (l.printed, r.printed);
      scan = ap (λ t. tokens_from t 0 true at line) e ∙ l.scan ∙ ap (onto (row_tokens l.row ++ (l.row.end ∷ []))) r.scan
          ∙ ap (λ ts. record { tokens = ts; ending = None }) (append_assoc (row_tokens l.row) (l.row.end ∷ []) (rows_tokens r.rows));
    }

-- a load text has the tokens that print its warrior
pub load_tokens : (m : ℕ) (w : WarriorView) → w.start < 2 ^ 16 → All (IsBelow m) w.code → m ≤ 65535 → (p : Printed) × IsPrint (load_text m w) m w p × (tokens_of (load_text m w) ≡ printed_tokens p)
unfolding load_text
load_tokens m w l b s =
    let text = load_text m w in
    let rest : List ℕ = flat_map (line_text m) w.code in
    let a = start_scan text w.start rest 0 1 l (record { before = []; whole = refl; place = refl }) in
    let r = rows_scan text m w.code a.after 2 b s a.place in
    let o = a.opening in
    (record { opening = o; rows = r.rows }, record { start = a.printed; code = r.printed }, tokens_of_load m w l b s ∙ a.scan ∙ ap (onto (o.word ∷ o.number ∷ o.end ∷ [])) r.scan)
