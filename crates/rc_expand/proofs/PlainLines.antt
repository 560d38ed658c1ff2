-- A text of plain lines expands to its own lines: nothing is to be unrolled or replaced.
use Rattle.std.proofs.Common.{◌≡◌, ℕ, ◌+◌, ◌<◌, ◌≤◌, Bool, true, false, List, [], ◌∷◌, ◌++◌, length, take, drop, None, refl, sym, ◌∙◌, ap, arith, append_assoc, length-append, take-append-drop}
use Rattle.std.specs.Prelude.{Option, option_map, if◌then◌else◌, nat_lt, Ok}
use Rattle.std.proofs.lemmas.Bool.{lt-ltb}
use Rattle.std.proofs.lemmas.List.{append-nil}
use Rattle.rc_text.specs.declared.token.Token.{Token}
use Rattle.rc_text.specs.Tokens.{tokens_of}
use Rattle.rc_instr.specs.Rules.{RulesView}
use Rattle.rc_expand.specs.Limits.{MOST_LINES, MOST_TOKENS, DEEPEST_EQU}
use Rattle.rc_instr.specs.Results.{mapped, and_then}
use Rattle.rc_expand.specs.declared.read.raw_line.RawLine.{RawLine}
use Rattle.rc_expand.specs.declared.read.raw_line.RawWord.{RawWord}
use Rattle.rc_expand.specs.declared.read.raw_line.RawWord.TheVariants as word
use Rattle.rc_expand.specs.Equs.{EquView}
use Rattle.rc_expand.specs.Contexts.{ContextView}
use Rattle.rc_expand.specs.Read.Lines.{is_name_token}
use Rattle.rc_expand.specs.Read.Tree.{OneLine}
use Rattle.rc_expand.specs.Replace.{TokensSoFarView, BodyStep, token_or_body, with_tokens, body_within, replaced_tokens, exempt_len, line_tokens}
use Rattle.rc_expand.specs.Unroll.{UnrolledSoFarView, nothing_unrolled, with_line, unrolled_in, unrolled}
use Rattle.rc_expand.specs.Replace.Lines.{expanded_line, line_of, LinesSoFarView, with_expanded_line, line_replaced, lines_replaced, nothing_replaced, replaced}
use Rattle.rc_expand.specs.Expansion.{expansion_by, expansion_of, IsExpansion}
use Rattle.rc_expand.proofs.PlainRawLines.{PlainWord, AnOpcode, AStart, PlainLine, ArePlain, plain_tokens, raw_line_by, plain_raw_line, plain_raw_lines, plain_blocks, plain_line_by, plain_line, plain_lines, first_pass_there}

-- ---- without EQU names nothing is replaced

-- no name is an EQU name
no_body : (b : Bool) (o : Option EquView) → o ≡ None → (if b then o else None) ≡ None
no_body true o h = h
no_body false o h = refl

module _ (source : List ℕ) (rules : RulesView) where
  -- without constants and EQU names
  abbrev plain : ContextView
  plain = record { source = source; given = record { constants = []; rules = rules }; equs = [] }

  -- each token stays, where they are not too many
  same_spread : (inner : BodyStep) (ts : List Token) (r : TokensSoFarView) → length r.tokens + length ts ≤ MOST_TOKENS → with_tokens plain inner ts r ≡ Ok (record r { tokens = r.tokens ++ ts })
  same_spread inner [] r h = let e : r.tokens ≡ r.tokens ++ [] = sym (append-nil r.tokens) in (λ x. Ok (record { line = r.line; tokens = e x; replacements = r.replacements }))
  same_spread inner (t ∷ ts) r h =
      let few : nat_lt (length r.tokens) MOST_TOKENS ≡ true = lt-ltb (length r.tokens) MOST_TOKENS (omega (arith, h)) in
      let more : TokensSoFarView = record r { tokens = r.tokens ++ (t ∷ []) } in
      let pushed : token_or_body inner t None r ≡ Ok more = rw few refl in
      let all : (r.tokens ++ (t ∷ [])) ++ ts ≡ r.tokens ++ (t ∷ ts) = append_assoc r.tokens (t ∷ []) ts in
      ap (λ o. and_then (with_tokens plain inner ts) (token_or_body inner t (option_map (λ (e : EquView). e.tokens) o) r)) (no_body (is_name_token t) None refl)
      ∙ ap (and_then (with_tokens plain inner ts)) pushed
      ∙ same_spread inner ts more (omega (arith, h, length-append r.tokens (t ∷ [])))
      ∙ (λ x. Ok (record { line = r.line; tokens = all x; replacements = r.replacements }))

  -- so the tokens of a line stay
  same_line : (line : ℕ) (w : RawWord) (ts : List Token) → length ts ≤ MOST_TOKENS → line_tokens plain line w ts ≡ Ok ts
  unfolding replaced_tokens
  same_line line w ts h =
      let n = exempt_len source w ts in
      let whole : take n ts ++ drop n ts ≡ ts = take-append-drop n ts in
      ap (mapped (λ (r : TokensSoFarView). r.tokens)) (same_spread (body_within plain DEEPEST_EQU) (drop n ts) (record { line = line; tokens = take n ts; replacements = 0 }) (omega (arith, h, ap length whole, length-append (take n ts) (drop n ts))))
      ∙ ap Ok whole

  -- the line of a raw line
  line_there : (w : PlainWord) (t : Token) (ts : List Token) → length ts < MOST_TOKENS → line_of plain (raw_line_by w t ts) ≡ Ok (plain_line_by w t ts)
  unfolding line_of
  line_there (AnOpcode o) t ts h =
      let g = raw_line_by (AnOpcode o) t ts in
      ap (mapped (expanded_line source g word.Code)) (same_line g.number word.Code (t ∷ ts) (omega (arith, h)))
  line_there AStart t ts h =
      let g = raw_line_by AStart t ts in
      ap (mapped (expanded_line source g word.Org)) (same_line g.number word.Org ts (omega (arith, h)))

  -- a line defines no name and is added
  line_next : (p : PlainLine) (r : LinesSoFarView) → length p.others < MOST_TOKENS
      → line_replaced plain (raw_line_by p.word p.first p.others) r ≡ Ok (record { names = r.names; lines = r.lines ++ (plain_line p ∷ []) })
  line_next p r h = by_word p.word (line_there p.word p.first p.others h) where
    by_word : (w : PlainWord) → line_of plain (raw_line_by w p.first p.others) ≡ Ok (plain_line_by w p.first p.others)
        → line_replaced plain (raw_line_by w p.first p.others) r ≡ Ok (record { names = r.names; lines = r.lines ++ (plain_line_by w p.first p.others ∷ []) })
    by_word (AnOpcode o) k = ap (mapped (with_expanded_line r.lines r.names)) k
    by_word AStart k = ap (mapped (with_expanded_line r.lines r.names)) k

  all_there : (ps : List PlainLine) (r : LinesSoFarView) → ArePlain source ps → lines_replaced plain (plain_raw_lines ps) r ≡ Ok (record { names = r.names; lines = r.lines ++ plain_lines ps })
  all_there [] r a = let e : r.lines ≡ r.lines ++ [] = sym (append-nil r.lines) in (λ x. Ok (record { names = r.names; lines = e x }))
  all_there (p ∷ ps) r a =
      let more : LinesSoFarView = record { names = r.names; lines = r.lines ++ (plain_line p ∷ []) } in
      let all : (r.lines ++ (plain_line p ∷ [])) ++ plain_lines ps ≡ r.lines ++ (plain_line p ∷ plain_lines ps) = append_assoc r.lines (plain_line p ∷ []) (plain_lines ps) in
      ap (and_then (lines_replaced plain (plain_raw_lines ps))) (line_next p r a.0.short)
      ∙ all_there ps more a.1
      ∙ (λ x. Ok (record { names = r.names; lines = all x }))

  -- the third part of the expansion
  raw_lines_replaced : (ps : List PlainLine) → ArePlain source ps → replaced plain (plain_raw_lines ps) ≡ Ok (plain_lines ps)
  unfolding replaced
  raw_lines_replaced ps a = ap (mapped (λ (r : LinesSoFarView). r.lines)) (all_there ps (nothing_replaced) a)

  -- ---- without FOR nothing is unrolled

  -- each line stays
  all_stay : (ps : List PlainLine) (u : UnrolledSoFarView) → length u.lines + u.copy_count + length ps ≤ MOST_LINES
      → unrolled_in plain (plain_blocks ps) [] u ≡ Ok (record u { lines = u.lines ++ plain_raw_lines ps })
  all_stay [] u l = let e : u.lines ≡ u.lines ++ [] = sym (append-nil u.lines) in (λ x. Ok (record { lines = e x; copy_count = u.copy_count }))
  all_stay (p ∷ ps) u l =
      let h : RawLine = plain_raw_line p in
      let more : UnrolledSoFarView = record u { lines = u.lines ++ (h ∷ []) } in
      let few : nat_lt (length u.lines + u.copy_count) MOST_LINES ≡ true = lt-ltb (length u.lines + u.copy_count) MOST_LINES (omega (arith, l)) in
      let pushed : with_line h u ≡ Ok more = rw few refl in
      let all : (u.lines ++ (h ∷ [])) ++ plain_raw_lines ps ≡ u.lines ++ (h ∷ plain_raw_lines ps) = append_assoc u.lines (h ∷ []) (plain_raw_lines ps) in
      by_word p.word
      ∙ (ap (and_then (unrolled_in plain (plain_blocks ps) [])) pushed
      ∙ (all_stay ps more (omega (arith, l, length-append u.lines (h ∷ []))) ∙ (λ x. Ok (record { lines = all x; copy_count = u.copy_count }))))
    where
      by_word : (w : PlainWord) → unrolled_in plain (OneLine (raw_line_by w p.first p.others) (plain_blocks ps)) [] u ≡ and_then (unrolled_in plain (plain_blocks ps) []) (with_line (raw_line_by w p.first p.others) u)
      by_word (AnOpcode o) = refl
      by_word AStart = refl

  -- the second part of the expansion
  raw_lines_unrolled : (ps : List PlainLine) → length ps ≤ MOST_LINES → unrolled plain (plain_blocks ps) ≡ Ok (plain_raw_lines ps)
  unfolding unrolled
  raw_lines_unrolled ps l = ap (mapped (λ (u : UnrolledSoFarView). u.lines)) (all_stay ps nothing_unrolled (omega (arith, l)))

  -- the three in turn
  pub plain_expands : (ps : List PlainLine) → ArePlain source ps → length ps ≤ MOST_LINES → tokens_of source ≡ record { tokens = plain_tokens ps; ending = None } → IsExpansion source [] rules (plain_lines ps)
  unfolding expansion_of
  plain_expands ps a l e =
      ap (and_then (expansion_by source [] rules)) (first_pass_there source rules ps a e)
      ∙ ap (and_then (replaced plain)) (raw_lines_unrolled ps l)
      ∙ raw_lines_replaced ps a
