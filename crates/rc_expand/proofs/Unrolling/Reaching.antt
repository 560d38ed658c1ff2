-- Lines in copies: a copy changes neither the word of a line nor its number.
use Rattle.std.proofs.Common.{◌≡◌, ℕ, suc, ◌≤◌, Bool, true, false, List, [], ◌∷◌, ◌++◌, length, Option, Some, None, refl, sym, ◌∙◌, ap, arith, ◌<◌, ◌+◌, take, get_or}
use Rattle.std.proofs.lemmas.List.{take_more}
use Rattle.std.proofs.lemmas.Bool.{and_parts}
use Rattle.std.proofs.lemmas.Bool.Decides.{nat_tests}
use Rattle.std.specs.Prelude.{Ok, option_map, is_none, not, ◌==◌}
use Rattle.rc_text.specs.declared.token.Token.{Token}
use Rattle.rc_expand.specs.declared.read.raw_line.RawLine.{RawLine}
use Rattle.rc_expand.specs.declared.unroll.reached.BlockCopy.{BlockCopy}
use Rattle.rc_expand.specs.Read.Lines.{bare_line}
use Rattle.rc_expand.specs.Unroll.{word_check, line_check, UnrolledSoFarView, with_line, with_earlier}
use Rattle.rc_expand.specs.Unroll.Copies.{BlockCopyView, numbering_by, is_in_block, or_spoiled, copied_line, line_in_copy, line_in, all_of, copied_tokens, copied_rest}
use Rattle.rc_expand.specs.Unroll.Reached.{seen_block_copy, copies_in, have_no_counter, reached_part}
use Rattle.rc_expand.specs.Unroll.Openings.{earlier_of}

module _ (source : List ℕ) where
  spoiled_word : (h : RawLine) (a : Option (List (List Token))) (b : Option (List Token)) → (or_spoiled h a b).word ≡ h.word
  spoiled_word h None b = refl
  spoiled_word h (Some a) None = refl
  spoiled_word h (Some a) (Some b) = refl

  copied_word : (counter : Option (List ℕ)) (k : ℕ) (h : RawLine) → (line_in_copy source counter k h).word ≡ h.word
  unfolding copied_line
  copied_word None k h = refl
  copied_word (Some counter) k h = spoiled_word h (all_of (copied_tokens (numbering_by source counter k)) h.labels) (copied_rest (numbering_by source counter k) h.word h.rest)

  -- a copy has the word of its line
  pub word_in : (cs : List BlockCopyView) (h : RawLine) → (line_in source cs h).word ≡ h.word
  word_in [] h = refl
  word_in (c ∷ cs) h = word_in cs (line_in_copy source c.counter c.number h) ∙ copied_word c.counter c.number h

  -- and its number
  spoiled_number : (h : RawLine) (a : Option (List (List Token))) (b : Option (List Token)) → (or_spoiled h a b).number ≡ h.number
  spoiled_number h None b = refl
  spoiled_number h (Some a) None = refl
  spoiled_number h (Some a) (Some b) = refl

  copied_number : (counter : Option (List ℕ)) (k : ℕ) (h : RawLine) → (line_in_copy source counter k h).number ≡ h.number
  unfolding copied_line
  copied_number None k h = refl
  copied_number (Some counter) k h = spoiled_number h (all_of (copied_tokens (numbering_by source counter k)) h.labels) (copied_rest (numbering_by source counter k) h.word h.rest)

  pub number_in : (cs : List BlockCopyView) (h : RawLine) → (line_in source cs h).number ≡ h.number
  number_in [] h = refl
  number_in (c ∷ cs) h = number_in cs (line_in_copy source c.counter c.number h) ∙ copied_number c.counter c.number h

  pub part_number : (cs : List BlockCopyView) (b : Bool) (h : RawLine) → (reached_part b (line_in source cs h)).number ≡ h.number
  part_number cs true h = number_in cs h
  part_number cs false h = number_in cs h

  -- so a line that is as spoiled as before is checked as before
  pub checked_in : (cs : List BlockCopyView) (b : Bool) (h : RawLine) → (line_in source cs h).spoiled ≡ h.spoiled → word_check h.number h.word b h.spoiled ≡ line_check b (line_in source cs h)
  checked_in cs b h e =
      ap (λ n. word_check n h.word b h.spoiled) (sym (number_in cs h))
      ∙ (ap (λ w. word_check (line_in source cs h).number w b h.spoiled) (sym (word_in cs h))
      ∙ ap (λ s. word_check (line_in source cs h).number (line_in source cs h).word b s) (sym e))

  -- one copy more
  pub line_more : (cs : List BlockCopyView) (c : BlockCopyView) (h : RawLine) → line_in source (cs ++ (c ∷ [])) h ≡ line_in_copy source c.counter c.number (line_in source cs h)
  line_more [] c h = refl
  line_more (d ∷ cs) c h = line_more cs c (line_in_copy source d.counter d.number h)

-- whether there is a copy
pub any_seen : (cs : List BlockCopy) → not (length cs == 0) ≡ is_in_block (copies_in cs)
any_seen [] = refl
any_seen (c ∷ cs) = let e : (suc (length cs) == 0) ≡ false = grind (arith, nat_tests) in ap not e

-- one copy more, as it is seen
pub seen_more : (cs : List BlockCopy) (c : BlockCopy) → copies_in (cs ++ (c ∷ [])) ≡ copies_in cs ++ (seen_block_copy c ∷ [])
seen_more [] c = refl
seen_more (d ∷ cs) c = ap (λ x. seen_block_copy d ∷ x) (seen_more cs c)

-- the labels before a counter are a line
pub some_earlier : (number : ℕ) (ls : List (List Token)) (u : UnrolledSoFarView) → 2 ≤ length ls → with_earlier number (earlier_of ls) u ≡ with_line (bare_line number (earlier_of ls)) u
some_earlier number [] u h = absurd (omega arith)
some_earlier number (l ∷ []) u h = absurd (omega arith)
some_earlier number (l ∷ m ∷ ls) u h = refl

-- unless there are none
pub no_earlier : (number : ℕ) (ls : List (List Token)) (u : UnrolledSoFarView) → length ls < 2 → with_earlier number (earlier_of ls) u ≡ Ok u
no_earlier number [] u h = refl
no_earlier number (l ∷ []) u h = refl
no_earlier number (l ∷ m ∷ ls) u h = absurd (omega arith)

-- a line in one copy more
pub copies_more : (source : List ℕ) (cs : List BlockCopy) (i : ℕ) (c : BlockCopy) (h : RawLine) → i < length cs
    → line_in source (copies_in (take (i + 1) cs)) h ≡ line_in_copy source (option_map (λ b. b.now) (get_or cs i c).counter) (get_or cs i c).number (line_in source (copies_in (take i cs)) h)
copies_more source cs i c h e =
    ap (λ l. line_in source (copies_in l) h) (take_more cs i c e)
    ∙ (ap (λ l. line_in source l h) (seen_more (take i cs) (get_or cs i c))
    ∙ line_more source (copies_in (take i cs)) (seen_block_copy (get_or cs i c)) h)

no_counter : {A : Type 0} (f : A → List ℕ) (o : Option A) (source : List ℕ) (k : ℕ) (h : RawLine) → is_none o ≡ true → line_in_copy source (option_map f o) k h ≡ h
no_counter f None source k h e = refl
no_counter f (Some counter) source k h e = absurd (cc)

-- in copies without a counter it is the line itself
pub uncounted : (source : List ℕ) (cs : List BlockCopy) (h : RawLine) → have_no_counter cs ≡ true → line_in source (copies_in cs) h ≡ h
uncounted source [] h e = refl
uncounted source (c ∷ cs) h e =
    let p = and_parts (is_none c.counter) (have_no_counter cs) e in
    ap (λ g. line_in source (copies_in cs) g) (no_counter (λ b. b.now) c.counter source c.number h p.0) ∙ uncounted source cs h p.1
