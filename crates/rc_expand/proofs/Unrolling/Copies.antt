-- Steps of the copies.
use Rattle.std.proofs.Common.{◌≡◌, ℕ, ◌+◌, ◌≤◌, ◌<◌, Bool, true, false, List, [], ◌∷◌, ◌++◌, get_or, take, drop, length, length-drop, refl, arith, sym, ◌∙◌, ap, Option, Some, subst}
use Rattle.std.specs.Prelude.{◌&&◌, option_map, option_and_then, nat_lt}
use Rattle.std.proofs.lemmas.List.{drop-drop}
use Rattle.std.proofs.lemmas.Bool.Decides.{nat_tests}
use Rattle.rc_text.specs.declared.token.Token.{Token}
use Rattle.rc_expand.specs.Limits.{MOST_JOINED}
use Rattle.rc_expand.proofs.Each.{split_at, split_two}
use Rattle.rc_expand.specs.Read.Lines.{is_name_token, is_ampersand, has_modifier}
use Rattle.rc_expand.specs.Unroll.Copies.{NumberingView, is_counter, with_number, joins, with_counter, copied_from, copied_tokens, copied_code}

module _ (numbering : NumberingView) where
  joins_short_list : (t : Token) (ts : List Token) → length ts ≤ 1 → joins numbering t ts ≡ false
  joins_short_list t [] h = refl
  joins_short_list t (u ∷ []) h = refl
  joins_short_list t (u ∷ v ∷ ts) h = absurd (omega arith)

  -- the last token has nothing after it to join
  pub joins_short : (t : Token) (ts : List Token) (i : ℕ) → length ts ≤ i + 1 → joins numbering t (drop i ts) ≡ false
  joins_short t ts i h = joins_short_list t (drop i ts) (omega (arith, length-drop i ts))

  -- whether the next two tokens join, by what they are
  pub joins_at : (t : Token) (ts : List Token) (i : ℕ) (u v : Token) → i + 1 < length ts → u ≡ get_or ts i u → v ≡ get_or ts (i + 1) v
      → joins numbering t (drop i ts) ≡ (is_name_token t && (is_ampersand u && is_counter numbering v))
  joins_at t ts i u v h e f = ap (joins numbering t) (split_two ts i u v h e f)

  pub from_list : (m : Bool) (t : Token) (ts : List Token) → joins numbering t ts ≡ true → copied_from numbering m t ts ≡ option_and_then (λ j. copied_from numbering true j (drop 2 ts)) (with_counter numbering t)
  from_list m t [] h = cc
  from_list m t (u ∷ []) h = cc
  from_list m t (u ∷ v ∷ ts) h = rw h

  -- a name that is joined no more
  pub passed_list : (m : Bool) (t u : Token) (ts : List Token) → joins numbering t (u ∷ ts) ≡ false
      → copied_from numbering m t (u ∷ ts) ≡ option_map (λ r. with_number numbering m t ∷ r) (copied_from numbering false u ts)
  passed_list m t u [] h = refl
  passed_list m t u (v ∷ ts) h = rw h

  -- the tokens so far, and what is still to come
  abbrev pub Rest : List Token → List Token → Option (List Token) → Type 0
  Rest tokens copied rest = copied_tokens numbering tokens ≡ option_map (λ r. copied ++ r) rest

  drop_two : (ts : List Token) (i : ℕ) → drop 2 (drop i ts) ≡ drop (i + 2) ts
  drop_two ts i = drop-drop 2 i ts

  joined_at : (m : Bool) (t : Token) (ts : List Token) (i : ℕ) → true ≡ joins numbering t (drop i ts)
      → copied_from numbering m t (drop i ts) ≡ option_and_then (λ j. copied_from numbering true j (drop (i + 2) ts)) (with_counter numbering t)
  joined_at m t ts i j = from_list m t (drop i ts) (sym j) ∙ ap (λ r. option_and_then (λ n. copied_from numbering true n r) (with_counter numbering t)) (drop_two ts i)

  room : (t : Token) → length t.joined < MOST_JOINED → with_counter numbering t ≡ Some (record t { joined = t.joined ++ (numbering.number ∷ []) })
  room t h = let e : nat_lt (length t.joined) MOST_JOINED ≡ true = grind (arith, nat_tests) in rw e

  -- the copy goes on after a counter that is joined
  pub name_joined : (m : Bool) (t : Token) (ts : List Token) (i : ℕ) → length t.joined < MOST_JOINED → true ≡ joins numbering t (drop i ts)
      → copied_from numbering m t (drop i ts) ≡ copied_from numbering true (record t { joined = t.joined ++ (numbering.number ∷ []) }) (drop (i + 2) ts)
  name_joined m t ts i h j = joined_at m t ts i j ∙ ap (option_and_then (λ n. copied_from numbering true n (drop (i + 2) ts))) (room t h)

  -- if no counter is joined to a token, its copy comes before those of the rest
  pub no_more_joined : (m : Bool) (t : Token) (ts : List Token) → joins numbering t ts ≡ false
      → copied_from numbering m t ts ≡ option_map (λ r. with_number numbering m t ∷ r) (copied_tokens numbering ts)
  no_more_joined m t [] h = refl
  no_more_joined m t (u ∷ ts) h = passed_list m t u ts h

  -- copying from index `i` begins with the token there
  first_at : (ts : List Token) (i : ℕ) (t : Token) → i < length ts → t ≡ get_or ts i t
      → copied_tokens numbering (drop i ts) ≡ copied_from numbering false t (drop (i + 1) ts)
  first_at ts i t h e = ap (copied_tokens numbering) (split_at ts i t h e)

  -- nothing is joined to a token that is not a name
  joins_none : (t : Token) (ts : List Token) → is_name_token t ≡ false → joins numbering t ts ≡ false
  joins_none t [] h = refl
  joins_none t (u ∷ []) h = refl
  joins_none t (u ∷ v ∷ ts) h = rw h

  -- and it is not the counter
  stays_as_it_is : (t : Token) → is_name_token t ≡ false → with_number numbering false t ≡ t
  stays_as_it_is t h = rw h

  -- a token that is not a name is copied unchanged
  pub kept_at : (ts : List Token) (i : ℕ) (t : Token) → i < length ts → t ≡ get_or ts i t → is_name_token t ≡ false
      → copied_tokens numbering (drop i ts) ≡ option_map (λ r. t ∷ r) (copied_tokens numbering (drop (i + 1) ts))
  kept_at ts i t h e n =
      first_at ts i t h e
      ∙ (no_more_joined false t (drop (i + 1) ts) (joins_none t (drop (i + 1) ts) n)
      ∙ ap (λ x. option_map (λ r. x ∷ r) (copied_tokens numbering (drop (i + 1) ts))) (stays_as_it_is t n))

-- an equal item
pub same_read : {A : Type 0} (xs : List A) (i : ℕ) (x y : A) → x ≡ y → y ≡ get_or xs i y → x ≡ get_or xs i x
same_read xs i x y e h = subst (λ z. z ≡ get_or xs i z) (sym e) h

-- after an opcode word and a dot the modifier is left alone
module _ (numbering : NumberingView) where
  -- a line of one or two tokens has no modifier
  pub code_short : (ts : List Token) → length ts < 3 → copied_code numbering ts ≡ copied_tokens numbering ts
  code_short [] h = refl
  code_short (t ∷ []) h = refl
  code_short (t ∷ u ∷ []) h = refl
  code_short (t ∷ u ∷ v ∷ ts) h = absurd (omega arith)

  -- without a modifier all tokens are copied
  pub code_plain : (ts : List Token) (t u v : Token) → 3 ≤ length ts → t ≡ get_or ts 0 t → u ≡ get_or ts 1 u → v ≡ get_or ts 2 v → false ≡ has_modifier numbering.source t u v
      → copied_code numbering ts ≡ copied_tokens numbering ts
  code_plain [] t u v h e f g m = absurd (omega arith)
  code_plain (a ∷ []) t u v h e f g m = absurd (omega arith)
  code_plain (a ∷ b ∷ []) t u v h e f g m = absurd (omega arith)
  code_plain (a ∷ b ∷ c ∷ ts) t u v h e f g m =
      let n : has_modifier numbering.source a b c ≡ false = rw (← e, ← f, ← g) (sym m) in rw n

  -- an opcode word, a dot and a modifier are left alone
  pub code_kept : (ts : List Token) (t u v : Token) → 3 ≤ length ts → t ≡ get_or ts 0 t → u ≡ get_or ts 1 u → v ≡ get_or ts 2 v → true ≡ has_modifier numbering.source t u v
      → copied_code numbering ts ≡ option_map (λ r. take 3 ts ++ r) (copied_tokens numbering (drop 3 ts))
  code_kept [] t u v h e f g m = absurd (omega arith)
  code_kept (a ∷ []) t u v h e f g m = absurd (omega arith)
  code_kept (a ∷ b ∷ []) t u v h e f g m = absurd (omega arith)
  code_kept (a ∷ b ∷ c ∷ ts) t u v h e f g m =
      let n : has_modifier numbering.source a b c ≡ true = rw (← e, ← f, ← g) (sym m) in rw n
