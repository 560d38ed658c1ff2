-- A cache's entries, with each key seen as a list.
use Rattle.std.proofs.Common.{arith, ◌≡◌, ℕ, zero, suc, ◌-◌, ◌<◌, Bool, true, false, cond, List, [], ◌∷◌, take, map, Option, Some, None, refl, sym, ◌∙◌, ap, ◌⊎◌, inl, inr}
use Rattle.std.specs.Option.{option_map, option_map_or, is_some}
use Rattle.std.specs.List.{slice_get}
use Rattle.std.specs.Map.{lookup, lookup_entry, remove_entry}
use Rattle.lru.specs.LruCache.{LruCache, promoted, put_entries}
use Rattle.std.proofs.lemmas.List.{take-map}

-- a cache with capacity 0 is empty, and any other has room for as many as its capacity
pub without_room : {X : Type 0} (capacity room : ℕ) (entries : List X) → (0 < room) × (((capacity ≡ 0) × (entries ≡ [])) ⊎ (capacity ≡ room)) → capacity ≡ 0 → entries ≡ []
without_room capacity room entries h none = elim h.1 [ inl a ↦ a.1 | inr e ↦ absurd (omega (arith, h.0, e, none)) ]

pub as_room : {X : Type 0} (capacity room : ℕ) (entries : List X) → (0 < room) × (((capacity ≡ 0) × (entries ≡ [])) ⊎ (capacity ≡ room)) → (capacity ≡ 0 → ⊥) → capacity ≡ room
as_room capacity room entries h some = elim h.1 [ inl a ↦ absurd (some a.0) | inr e ↦ e ]

cut : {X : Type 0} (n : ℕ) (x : X) (xs : List X) → 0 < n → x ∷ take (n - 1) xs ≡ take n (x ∷ xs)
cut zero x xs room = absurd (omega arith)
cut (suc n) x xs room = let e : suc n - 1 ≡ n = omega arith in ap (λ m. x ∷ take m xs) e

-- a value that is not there has no entry
no_entry : {K V : Type 0} (test : K → Bool) (es : List (K × V)) → lookup test es ≡ None → lookup_entry test es ≡ None
no_entry test [] h = refl
no_entry test (e ∷ es) h = (elim (test e.0) as (λ b. cond b (Some e.1) (lookup test es) ≡ None → cond b (Some e) (lookup_entry test es) ≡ None) [
  | true ↦ λ t. absurd (cc)
  | false ↦ λ t. no_entry test es t
]) h

module _ {K L V : Type 0} (see : K → L) where
  abbrev pub seen : K × V → L × V
  seen e = (see e.0, e.1)

  -- by cases on the two tests, which agree
  pick_value : (b c : Bool) (v : V) (x y : Option V) → b ≡ c → x ≡ y → cond b (Some v) x ≡ cond c (Some v) y
  pick_value b c v x y e f = ap (λ t. cond t (Some v) x) e ∙ ap (λ o. cond c (Some v) o) f

  pick_entry : (b c : Bool) (e : K × V) (x : Option (K × V)) (y : Option (L × V)) → b ≡ c → option_map seen x ≡ y → option_map seen (cond b (Some e) x) ≡ cond c (Some (seen e)) y
  pick_entry true true e x y s t = refl
  pick_entry true false e x y s t = absurd (cc)
  pick_entry false true e x y s t = absurd (cc)
  pick_entry false false e x y s t = t

  pick_rest : (b c : Bool) (e : K × V) (es xs : List (K × V)) (ys : List (L × V)) → b ≡ c → map seen xs ≡ ys → map seen (cond b es (e ∷ xs)) ≡ cond c (map seen es) (seen e ∷ ys)
  pick_rest true true e es xs ys s t = refl
  pick_rest true false e es xs ys s t = absurd (cc)
  pick_rest false true e es xs ys s t = absurd (cc)
  pick_rest false false e es xs ys s t = ap (λ l. seen e ∷ l) t

  module _ (test : K → Bool) (seen_test : L → Bool) (same : (k : K) → test k ≡ seen_test (see k)) where
    pub lookup_seen : (es : List (K × V)) → lookup test es ≡ lookup seen_test (map seen es)
    lookup_seen [] = refl
    lookup_seen (e ∷ es) = pick_value (test e.0) (seen_test (see e.0)) e.1 _ _ (same e.0) (lookup_seen es)

    pub entry_seen : (es : List (K × V)) → option_map seen (lookup_entry test es) ≡ lookup_entry seen_test (map seen es)
    entry_seen [] = refl
    entry_seen (e ∷ es) = pick_entry (test e.0) (seen_test (see e.0)) e _ _ (same e.0) (entry_seen es)

    pub rest_seen : (es : List (K × V)) → map seen (remove_entry test es) ≡ remove_entry seen_test (map seen es)
    rest_seen [] = refl
    rest_seen (e ∷ es) = pick_rest (test e.0) (seen_test (see e.0)) e es _ _ (same e.0) (rest_seen es)

    front : (es : List (K × V)) (o : Option (K × V)) →
        map seen (option_map_or (λ e. e ∷ remove_entry test es) o es) ≡ option_map_or (λ e. e ∷ remove_entry seen_test (map seen es)) (option_map seen o) (map seen es)
    front es None = refl
    front es (Some e) = ap (λ l. seen e ∷ l) (rest_seen es)

    pub promoted_seen : (es : List (K × V)) → map seen (promoted test es) ≡ promoted seen_test (map seen es)
    promoted_seen es =
        front es (lookup_entry test es) ∙ ap (λ o. option_map_or (λ e. e ∷ remove_entry seen_test (map seen es)) o (map seen es)) (entry_seen es)

  -- `put` of a key that is not there
  pub put_seen : (eq : K → K → Bool) (c : LruCache K V) (k : K) (v : V) (seen_test : L → Bool) → ((j : K) → eq k j ≡ seen_test (see j)) →
      lookup seen_test (map seen c.entries) ≡ None → 0 < c.cap → map seen (put_entries eq c k v) ≡ take c.cap ((see k, v) ∷ map seen c.entries)
  put_seen eq c k v seen_test same none room =
      let no : lookup_entry (eq k) c.entries ≡ None = no_entry (eq k) c.entries (lookup_seen (eq k) seen_test same c.entries ∙ none) in
      ap (λ o. map seen (option_map_or (λ e. (e.0, v) ∷ remove_entry (eq k) c.entries) o ((k, v) ∷ take (c.cap - 1) c.entries))) no
      ∙ ap (λ l. seen (k, v) ∷ l) (sym (take-map seen (c.cap - 1) c.entries)) ∙ cut c.cap (see k, v) (map seen c.entries) room

module _ {K V : Type 0} (test : K → Bool) where
  -- a look-up that finds nothing leaves the entries as they are
  pub promoted_none : (es : List (K × V)) → lookup test es ≡ None → promoted test es ≡ es
  promoted_none es h = ap (λ o. option_map_or (λ e. e ∷ remove_entry test es) o es) (no_entry test es h)

  value_is : (es : List (K × V)) → lookup test es ≡ option_map (λ e. e.1) (lookup_entry test es)
  value_is [] = refl
  value_is (e ∷ es) = (elim (test e.0) as (λ b. cond b (Some e.1) (lookup test es) ≡ option_map (λ e. e.1) (cond b (Some e) (lookup_entry test es))) [
    | true ↦ refl
    | false ↦ value_is es
  ])

  first_is : (es : List (K × V)) (o : Option (K × V)) → is_some (option_map (λ e. e.1) o) ≡ true →
      option_map (λ e. e.1) (slice_get (option_map_or (λ e. e ∷ remove_entry test es) o es) 0) ≡ option_map (λ e. e.1) o
  first_is es None h = absurd (cc)
  first_is es (Some e) h = refl

  -- what a look-up finds is then the first entry
  pub promoted_first : (es : List (K × V)) → is_some (lookup test es) ≡ true → option_map (λ e. e.1) (slice_get (promoted test es) 0) ≡ lookup test es
  promoted_first es h = first_is es (lookup_entry test es) (ap is_some (sym (value_is es)) ∙ h) ∙ sym (value_is es)

pub none_is : {V : Type 0} (o : Option V) → is_some o ≡ false → o ≡ None
none_is None h = refl
none_is (Some v) h = absurd (cc)
