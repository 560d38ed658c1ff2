-- To a short line no ninth counter is joined, in however many copies it stands: the bulk of tokens
-- is their number, and two for each counter joined to one of them, and no copy has more than its
-- line.
use Rattle.std.proofs.Common.{◌≡◌, ℕ, ◌+◌, ◌*◌, ◌≤◌, arith, Bool, true, false, List, [], ◌∷◌, ◌++◌, length, Option, Some, None, refl, ◌∙◌, ap, length-append}
use Rattle.std.specs.Prelude.{◌&&◌, not, nat_le, nat_lt, option_map, option_and_then, if◌then◌else◌}
use Rattle.std.specs.List.{AllByRecursion, list_all}
use Rattle.std.proofs.lemmas.Bool.{and_parts, leb-true, lt-ltb}
use Rattle.rc_text.specs.declared.token.Token.{Token}
use Rattle.rc_text.specs.declared.token.Kind.TheVariants.{Number}
use Rattle.rc_expand.specs.Limits.{MOST_JOINED}
use Rattle.rc_expand.specs.declared.read.raw_line.RawLine.{RawLine}
use Rattle.rc_expand.specs.declared.read.raw_line.RawWord.{RawWord}
use Rattle.rc_expand.specs.declared.read.raw_line.RawWord.TheVariants as word
use Rattle.rc_expand.specs.Read.Lines.{choose, has_modifier, is_unjoined}
use Rattle.rc_expand.specs.Unroll.Copies.{BlockCopyView, NumberingView, numbering_by, line_in_copy, line_in, is_counter, with_number, joins, with_counter, copied_from, copied_tokens, copied_code, copied_rest, copied_line, or_spoiled, all_of, is_short, is_short_line}

abbrev bulk : List Token → ℕ
bulk [] = 0
bulk (t ∷ ts) = 1 + 2 * length t.joined + bulk ts

abbrev IsSmall : List Token → Type 0
IsSmall ts = bulk ts ≤ 18

abbrev IsSmallLine : RawLine → Type 0
IsSmallLine h = AllByRecursion IsSmall h.labels × IsSmall h.rest

if_joined : (b : Bool) (k : ℕ) (t : Token) → (if b then record t { kind = Number k } else t).joined ≡ t.joined
if_joined true k t = refl
if_joined false k t = refl

-- a copy of no more bulk than `limit`
record Copied (limit : ℕ) (o : Option (List Token)) : Type 0 where
  pub tokens : List Token
  pub is : o ≡ Some tokens
  pub small : bulk tokens ≤ limit

either : (limit : ℕ) (b : Bool) (x y : Unit {0} → Option (List Token)) → Copied limit (x tt) → Copied limit (y tt) → Copied limit (choose b x y)
either limit true x y h k = h
either limit false x y h k = k

module _ (numbering : NumberingView) where
  -- a token that is passed, and the copy of those after it
  passed : (m : Bool) (t : Token) (limit : ℕ) (o : Option (List Token)) → Copied limit o → Copied (1 + 2 * length t.joined + limit) (option_map (λ r. with_number numbering m t ∷ r) o)
  passed m t limit o c =
      let same : length (with_number numbering m t).joined ≡ length t.joined = ap length (if_joined (not m && is_counter numbering t) numbering.number t) in
      record {
        tokens = with_number numbering m t ∷ c.tokens;
        is = ap (option_map (λ r. with_number numbering m t ∷ r)) c.is;
        small = omega (arith, same, c.small);
      }

  small_from : (m : Bool) (t : Token) (ts : List Token) → IsSmall (t ∷ ts) → Copied (bulk (t ∷ ts)) (copied_from numbering m t ts)
  small_from m t [] h = passed m t 0 (Some []) (record { tokens = []; is = refl; small = omega arith })
  small_from m t (u ∷ []) h = passed m t (bulk (u ∷ [])) _ (small_from false u [] (omega (arith, h)))
  small_from m t (u ∷ v ∷ ts) h =
      let j : Token = record t { joined = t.joined ++ (numbering.number ∷ []) } in
      let more : length j.joined ≡ length t.joined + 1 = length-append t.joined (numbering.number ∷ []) in
      let few : nat_lt (length t.joined) MOST_JOINED ≡ true = lt-ltb (length t.joined) MOST_JOINED (omega (arith, h)) in
      let is : with_counter numbering t ≡ Some j = rw few refl in
      let c = small_from true j ts (omega (arith, h, more)) in
      either (bulk (t ∷ u ∷ v ∷ ts)) (joins numbering t (u ∷ v ∷ ts)) _ _
      (record { tokens = c.tokens; is = ap (option_and_then (λ j. copied_from numbering true j ts)) is ∙ c.is; small = omega (arith, c.small, more) })
      (passed m t (bulk (u ∷ v ∷ ts)) _ (small_from false u (v ∷ ts) (omega (arith, h))))

  small_tokens : (ts : List Token) → IsSmall ts → Copied (bulk ts) (copied_tokens numbering ts)
  small_tokens [] h = record { tokens = []; is = refl; small = omega arith }
  small_tokens (t ∷ ts) h = small_from false t ts h

  small_code : (ts : List Token) → IsSmall ts → Copied (bulk ts) (copied_code numbering ts)
  small_code [] h = small_tokens [] h
  small_code (t ∷ []) h = small_tokens (t ∷ []) h
  small_code (t ∷ u ∷ []) h = small_tokens (t ∷ u ∷ []) h
  small_code (t ∷ u ∷ v ∷ ts) h =
      let c = small_tokens ts (omega (arith, h)) in
      either (bulk (t ∷ u ∷ v ∷ ts)) (has_modifier numbering.source t u v) _ _
      (record { tokens = t ∷ u ∷ v ∷ c.tokens; is = ap (option_map (λ r. t ∷ u ∷ v ∷ r)) c.is; small = omega (arith, c.small) })
      (small_tokens (t ∷ u ∷ v ∷ ts) h)

  small_rest : (w : RawWord) (ts : List Token) → IsSmall ts → Copied (bulk ts) (copied_rest numbering w ts)
  small_rest word.Code ts h = small_code ts h
  small_rest _ ts h = small_tokens ts h

  small_labels : (ls : List (List Token)) → AllByRecursion IsSmall ls → (copied : List (List Token)) × (all_of (copied_tokens numbering) ls ≡ Some copied) × AllByRecursion IsSmall copied
  small_labels [] h = ([], refl, tt)
  small_labels (l ∷ ls) h =
      let a = small_tokens l h.0 in
      let b = small_labels ls h.1 in (
        a.tokens ∷ b.0,
        ap (option_and_then (λ y. option_map (λ ys. y ∷ ys) (all_of (copied_tokens numbering) ls))) a.is ∙ ap (option_map (λ ys. a.tokens ∷ ys)) b.1,
        (let small : bulk l ≤ 18 = h.0 in omega (arith, a.small, small), b.2),
      )

  -- a copy of a small line is as spoiled as the line, and small
  small_line : (h : RawLine) → IsSmallLine h → ((copied_line numbering h).spoiled ≡ h.spoiled) × IsSmallLine (copied_line numbering h)
  unfolding copied_line
  small_line h small =
      let a = small_labels h.labels small.0 in
      let b = small_rest h.word h.rest small.1 in
      let e : copied_line numbering h ≡ record h { labels = a.0; rest = b.tokens } =
      ap (λ o. or_spoiled h o (copied_rest numbering h.word h.rest)) a.1 ∙ ap (or_spoiled h (Some a.0)) b.is in
      let few : bulk h.rest ≤ 18 = small.1 in
      rw e (refl, (a.2, omega (arith, b.small, few)))

-- what is short is small
unjoined_none : (ks : List ℕ) → is_unjoined ks ≡ true → length ks ≡ 0
unjoined_none [] h = refl
unjoined_none (k ∷ ks) h = absurd (cc)

unjoined_bulk : (ts : List Token) → list_all (λ t. is_unjoined t.joined) ts ≡ true → bulk ts ≡ length ts
unjoined_bulk [] h = refl
unjoined_bulk (t ∷ ts) h =
    let p = and_parts (is_unjoined t.joined) (list_all (λ t. is_unjoined t.joined) ts) h in
    omega (arith, unjoined_none t.joined p.0, unjoined_bulk ts p.1)

short_small : (ts : List Token) → is_short ts ≡ true → IsSmall ts
short_small ts h =
    let p = and_parts (nat_le (length ts) 18) (list_all (λ t. is_unjoined t.joined) ts) h in
    omega (arith, leb-true (length ts) 18 p.0, unjoined_bulk ts p.1)

all_small : (ls : List (List Token)) → list_all is_short ls ≡ true → AllByRecursion IsSmall ls
all_small [] h = tt
all_small (l ∷ ls) h = let p = and_parts (is_short l) (list_all is_short ls) h in (short_small l p.0, all_small ls p.1)

small_in : (source : List ℕ) (cs : List BlockCopyView) (h : RawLine) → IsSmallLine h → (line_in source cs h).spoiled ≡ h.spoiled
small_in source [] h small = refl
small_in source (c ∷ cs) h small = by_counter c.counter (λ g l. small_in source cs g l) where
  by_counter : (o : Option (List ℕ)) → ((g : RawLine) → IsSmallLine g → (line_in source cs g).spoiled ≡ g.spoiled) → (line_in source cs (line_in_copy source o c.number h)).spoiled ≡ h.spoiled
  by_counter None ih = ih h small
  by_counter (Some counter) ih =
      let copy = small_line (numbering_by source counter c.number) h small in
      ih (copied_line (numbering_by source counter c.number) h) copy.1 ∙ copy.0

-- a short line is as spoiled as it was, in whatever copies
pub short_in : (source : List ℕ) (cs : List BlockCopyView) (h : RawLine) → is_short_line h ≡ true → (line_in source cs h).spoiled ≡ h.spoiled
short_in source cs h s =
    let p = and_parts (list_all is_short h.labels) (is_short h.rest) s in
    small_in source cs h (all_small h.labels p.0, short_small h.rest p.1)
