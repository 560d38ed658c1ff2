-- The labels of lines, one at a time.
use Rattle.std.proofs.Common.{◌≡◌, ℕ, ◌+◌, ◌≤◌, map, true, false, List, [], ◌∷◌, ◌++◌, Option, Some, None, refl, sym, ◌∙◌, ap, arith, append_assoc, inl, inr}
use Rattle.std.specs.Option.{option_or}
use Rattle.std.specs.Prelude.{option_map, is_some, ◌⊎◌, if◌then◌else◌, Bool}
use Rattle.std.proofs.lemmas.List.{map-append}
use Rattle.std.proofs.lemmas.Bool.{both_ways, cases_Bool}
use Rattle.rc_text.specs.declared.token.Token.{Token}
use Rattle.rc_expand.specs.declared.line.LineWord.{LineWord}
use Rattle.rc_expand.specs.declared.line.LineWord.TheVariants.{Bare, Code, Org, End, Assert}
use Rattle.rc_expand.specs.declared.line.Line.{Line}
use Rattle.rc_expand.specs.Names.{entry_of}
use Rattle.rc_expand.specs.NameTables.{with_name}
use Rattle.std.specs.Str.{bytes_eq}
use Rattle.std.proofs.lemmas.Slice.Eq.{bytes_eq-Decides}
use Rattle.rc_text.specs.Symbols.{name_of}
use Rattle.rc_asm.specs.Names.{Labels, Agree, address_after, labels_from}

pub after_most : (w : LineWord) (address next : ℕ) → next ≡ address_after w address → next ≤ address + 1
after_most Bare address next h = omega (arith, h)
after_most Code address next h = omega (arith, h)
after_most Org address next h = omega (arith, h)
after_most End address next h = omega (arith, h)
after_most Assert address next h = omega (arith, h)

-- looking up in two lists, one after the other
found_both : {A : Type 0} (a b : List (List ℕ × A)) (name : List ℕ) → entry_of (a ++ b) name ≡ option_or (entry_of a name) (entry_of b name)
found_both [] b name = refl
found_both (e ∷ a) b name = by_name (bytes_eq name e.0) (found_both a b name) where
  by_name : (t : Bool) → entry_of (a ++ b) name ≡ option_or (entry_of a name) (entry_of b name) → (if t then Some e.1 else entry_of (a ++ b) name) ≡ option_or (if t then Some e.1 else entry_of a name) (entry_of b name)
  by_name true h = refl
  by_name false h = h

-- looking up after the values have changed
found_among : {A B : Type 0} (f : A → B) (t : List (List ℕ × A)) (name : List ℕ) → entry_of (map (λ e. (e.0, f e.1)) t) name ≡ option_map f (entry_of t name)
found_among f [] name = refl
found_among f (e ∷ t) name = by_name (bytes_eq name e.0) (found_among f t name) where
  by_name : (b : Bool) → entry_of (map (λ e. (e.0, f e.1)) t) name ≡ option_map f (entry_of t name) → (if b then Some (f e.1) else entry_of (map (λ e. (e.0, f e.1)) t) name) ≡ option_map f (if b then Some e.1 else entry_of t name)
  by_name true h = refl
  by_name false h = h

-- a label that is there already is found as before
kept_label : {A : Type 0} (f : A → ℕ) (t : List (List ℕ × A)) (n : List ℕ) (k : ℕ) (r : Labels) → is_some (entry_of t n) ≡ true → Agree (map (λ e. (e.0, f e.1)) t ++ r) (map (λ e. (e.0, f e.1)) t ++ ((n, k) ∷ r))
kept_label f t n k r h name =
    found_both (map (λ e. (e.0, f e.1)) t) r name
    ∙ (by_name (cases_Bool (bytes_eq name n)) ∙ sym (found_both (map (λ e. (e.0, f e.1)) t) ((n, k) ∷ r) name))
  where
    some_first : (o : Option ℕ) (x y : Option ℕ) → is_some o ≡ true → option_or o x ≡ option_or o y
    some_first (Some z) x y h = refl
    some_first None x y h = absurd (both_ways false refl h)

    some_still : {B : Type 0} (o : Option B) (g : B → ℕ) → is_some (option_map g o) ≡ is_some o
    some_still None g = refl
    some_still (Some z) g = refl

    by_name : ((bytes_eq name n ≡ true) ⊎ (bytes_eq name n ≡ false)) → option_or (entry_of (map (λ e. (e.0, f e.1)) t) name) (entry_of r name) ≡ option_or (entry_of (map (λ e. (e.0, f e.1)) t) name) (if bytes_eq name n then Some k else entry_of r name)
    by_name (inl e) =
        let same : name ≡ n = (bytes_eq-Decides name n).0 e in
        some_first (entry_of (map (λ e. (e.0, f e.1)) t) name) _ _ (ap is_some (found_among f t name) ∙ (some_still (entry_of t name) f ∙ (ap (λ x. is_some (entry_of t x)) same ∙ h)))
    by_name (inr e) = rw e refl

-- a label is added if it is new, and else found as before
pub label_taken : {A : Type 0} (f : A → ℕ) (t : List (List ℕ × A)) (n : List ℕ) (v : A) (r : Labels) → Agree (map (λ e. (e.0, f e.1)) (with_name t n v) ++ r) (map (λ e. (e.0, f e.1)) t ++ ((n, f v) ∷ r))
label_taken f t n v r = by_found (is_some (entry_of t n)) refl where
  by_found : (b : Bool) → is_some (entry_of t n) ≡ b → Agree (map (λ e. (e.0, f e.1)) (if b then t else t ++ ((n, v) ∷ [])) ++ r) (map (λ e. (e.0, f e.1)) t ++ ((n, f v) ∷ r))
  by_found true h = kept_label f t n (f v) r h
  by_found false h = λ name. ap (λ l. entry_of (l ++ r) name) (map-append (λ e. (e.0, f e.1)) t ((n, v) ∷ [])) ∙ ap (λ l. entry_of l name) (append_assoc (map (λ e. (e.0, f e.1)) t) ((n, f v) ∷ []) r)

-- a token's label is added
pub label_inserted : {A : Type 0} (f : A → ℕ) (source : List ℕ) (address : ℕ) (old new : List (List ℕ × A)) (rest after : List Token) (t : Token) (n : List ℕ) (v : A) → rest ≡ t ∷ after → n ≡ name_of source t → f v ≡ address
    → new ≡ with_name old n v → (r : Labels)
    → Agree (map (λ e. (e.0, f e.1)) new ++ (map (λ t. (name_of source t, address)) after ++ r)) (map (λ e. (e.0, f e.1)) old ++ (map (λ t. (name_of source t, address)) rest ++ r))
label_inserted f source address old new rest after t n v er en ev e r name =
    let more : Labels = map (λ t. (name_of source t, address)) after ++ r in
    ap (λ x. entry_of (map (λ e. (e.0, f e.1)) x ++ more) name) e
    ∙ (label_taken f old n v more name
    ∙ (ap (λ x. entry_of (map (λ e. (e.0, f e.1)) old ++ ((x, f v) ∷ more)) name) en
    ∙ (ap (λ x. entry_of (map (λ e. (e.0, f e.1)) old ++ ((name_of source t, x) ∷ more)) name) ev
    ∙ ap (λ ts. entry_of (map (λ e. (e.0, f e.1)) old ++ (map (λ t. (name_of source t, address)) ts ++ r)) name) (sym er))))

-- looking up an address
pub address_found : {A : Type 0} (f : A → ℕ) (t : List (List ℕ × A)) (o : Option A) (all : Labels) (name : List ℕ) → o ≡ entry_of t name → map (λ e. (e.0, f e.1)) t ≡ all → option_map f o ≡ entry_of all name
address_found f t o all name e m = ap (option_map f) e ∙ (sym (found_among f t name) ∙ ap (λ l. entry_of l name) m)

-- the labels of a line are added
pub labels_next : (source : List ℕ) (rest others : List Line) (l : Line) (old new whole : Labels) (address next : ℕ) → rest ≡ l ∷ others
    → ((r : Labels) → Agree (new ++ r) (old ++ (map (λ t. (name_of source t, address)) l.labels ++ r))) → next ≡ address_after l.word address
    → Agree (old ++ labels_from source address rest) whole → Agree (new ++ labels_from source next others) whole
labels_next source rest others l old new whole address next e n b w name =
    ap (λ k. entry_of (new ++ labels_from source k others) name) b
    ∙ (n (labels_from source (address_after l.word address) others) name
    ∙ (ap (λ ls. entry_of (old ++ labels_from source address ls) name) (sym e) ∙ w name))
