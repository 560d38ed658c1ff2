-- Places in a table of names.
use Rattle.std.proofs.Common.{◌≡◌, ℕ, zero, suc, ◌+◌, ◌<◌, false, List, [], ◌∷◌, ◌++◌, map, Option, None, Some, drop, get_or, length, refl, sym, ◌∙◌, ap, append_assoc, add-one, arith}
use Rattle.std.specs.Prelude.{is_some, slice_get, IfSome}
use Rattle.std.specs.Global.{Vec}
use Rattle.std.proofs.lemmas.List.{append-nil, map-append}
use Rattle.rc_text.specs.declared.token.Token.{Token}
use Rattle.rc_expand.specs.Equs.{EquView, Equs, equ_in}
use Rattle.rc_expand.specs.NameTables.{at_index, AreIndices, AreLinks}

module _ {A : Type 0} where
  value_at : (table : List (List ℕ × A)) (i : ℕ) → slice_get (map (λ e. e.1) table) i ≡ at_index table (Some i)
  value_at [] i = refl
  value_at (e ∷ es) zero = refl
  value_at (e ∷ es) (suc i) = value_at es i

  abbrev value_or : Option A → A → A
  value_or (Some y) x = y
  value_or None x = x

  nothing : (o : Option A) → false ≡ is_some o → None ≡ o
  nothing None h = refl
  nothing (Some x) h = cc

  -- the index that is found has the value that is found
  pub index_finds : (entries table : List (List ℕ × A)) (index : Option ℕ) (value : Option A) → entries ≡ table → is_some index ≡ is_some value
      → IfSome index (λ i. slice_get (map (λ e. e.1) entries) i ≡ value) → at_index table index ≡ value
  index_finds entries table None value e s h = nothing value s
  index_finds entries table (Some i) value e s h = ap (λ t. at_index t (Some i)) (sym e) ∙ (sym (value_at entries i) ∙ h)

  -- an index with a value is below its length, and is the first of those from there on
  pub index_inside : (table : List (List ℕ × A)) (i : ℕ) (x : A) → Some x ≡ at_index table (Some i) → i < length table
  index_inside [] i x h = cc
  index_inside (e ∷ es) zero x h = omega arith
  index_inside (e ∷ es) (suc i) x h = let p : i < length es = index_inside es i x h in omega arith

  module _ {B : Type 0} (f : A → B) where
    abbrev values : List (List ℕ × A) → List B
    values table = map (λ e. f e.1) table

    first_value : (table : List (List ℕ × A)) (i : ℕ) (x : A) → Some x ≡ at_index table (Some i) → values (drop i table) ≡ f x ∷ values (drop (suc i) table)
    first_value [] i x h = cc
    first_value (e ∷ es) zero x h = ap (λ y. f y ∷ values es) (sym (ap (λ o. value_or o x) h))
    first_value (e ∷ es) (suc i) x h = first_value es i x h

    -- one more value is worked on
    pub values_more : (table : List (List ℕ × A)) (i : ℕ) (x : A) (done : List B) → Some x ≡ at_index table (Some i)
        → done ++ values (drop i table) ≡ values table → (done ++ (f x ∷ [])) ++ values (drop (i + 1) table) ≡ values table
    values_more table i x done h e =
        append_assoc done (f x ∷ []) (values (drop (i + 1) table))
        ∙ (ap (λ vs. done ++ vs) (ap (λ n. f x ∷ values (drop n table)) (add-one i) ∙ sym (first_value table i x h)) ∙ e)

    -- no value is left
    no_value : (table : List (List ℕ × A)) (i : ℕ) → None ≡ at_index table (Some i) → drop i table ≡ []
    no_value [] zero h = refl
    no_value [] (suc i) h = refl
    no_value (e ∷ es) zero h = cc
    no_value (e ∷ es) (suc i) h = no_value es i h

    pub values_done : (table : List (List ℕ × A)) (i : ℕ) (done : List B) → None ≡ at_index table (Some i) → done ++ values (drop i table) ≡ values table → done ≡ values table
    values_done table i done h e = sym (append-nil done) ∙ (ap (λ t. done ++ values t) (sym (no_value table i h)) ∙ e)

    -- as the last of those done
    pub value_pushed : {L : Type 0} (g : L → B) (table : List (List ℕ × A)) (i : ℕ) (x : A) (done new : List L) (l : L) → Some x ≡ at_index table (Some i) → new ≡ done ++ (l ∷ []) → g l ≡ f x
        → map g done ++ values (drop i table) ≡ values table → map g new ++ values (drop (i + 1) table) ≡ values table
    value_pushed g table i x done new l h n e r =
        ap (λ ls. map g ls ++ values (drop (i + 1) table)) n
        ∙ (ap (λ ls. ls ++ values (drop (i + 1) table)) (map-append g done (l ∷ []) ∙ ap (λ y. map g done ++ (y ∷ [])) e)
        ∙ values_more table i x (map g done) h r)

module _ {X Y Z : Type 0} (f : X → Z) (g : Y → Z) where
  abbrev first_or : List Z → Z → Z
  first_or (z ∷ zs) y = z
  first_or [] y = y

  abbrev others : List Z → List Z
  others (z ∷ zs) = zs
  others [] = []

  -- if two lists have equal values item by item, the values at an index are equal
  pub same_at : (xs : List X) (ys : List Y) (i : ℕ) (x : X) (y : Y) → map f xs ≡ map g ys → i < length ys → f (get_or xs i x) ≡ g (get_or ys i y)
  same_at xs [] i x y e h = absurd (omega arith)
  same_at [] (b ∷ ys) i x y e h = cc
  same_at (a ∷ xs) (b ∷ ys) zero x y e h = ap (λ zs. first_or zs (f a)) e
  same_at (a ∷ xs) (b ∷ ys) (suc i) x y e h = same_at xs ys i x y (ap others e) (omega arith)

module _ (source : List ℕ) (equs : Equs) where
  -- the index of a token
  pub index_of : (tokens : List Token) (indices : List (Option ℕ)) (i : ℕ) (t : Token) → AreIndices source equs tokens indices → i < length tokens → t ≡ get_or tokens i t
      → at_index equs (get_or indices i None) ≡ equ_in source equs t
  index_of tokens indices i t p h e = same_at (at_index equs) (equ_in source equs) indices tokens i None t p h ∙ ap (equ_in source equs) (sym e)

  value_is : (table : Equs) (i : ℕ) (body : EquView) (d : List ℕ × EquView) → Some body ≡ at_index table (Some i) → (get_or table i d).1 ≡ body
  value_is [] i body d h = cc
  value_is (e ∷ es) zero body d h = sym (ap (λ o. value_or o body) h)
  value_is (e ∷ es) (suc i) body d h = value_is es i body d h

  -- the tokens of an EQU name are linked
  pub body_linked : (links : List (Vec (Option ℕ))) (i : ℕ) (body : EquView) (tokens : List Token) (l : Vec (Option ℕ)) (indices : List (Option ℕ)) → AreLinks source equs links → Some body ≡ at_index equs (Some i)
      → tokens ≡ body.tokens → l ≡ get_or links i l → indices ≡ l.items → AreIndices source equs tokens indices
  body_linked links i body tokens l indices a h t e p =
      let d : List ℕ × EquView = ([], body) in
      ap (map (at_index equs)) (p ∙ ap (λ (v : Vec (Option ℕ)). v.items) e)
      ∙ (same_at (λ (v : Vec (Option ℕ)). map (at_index equs) v.items) (λ x. map (equ_in source equs) x.1.tokens) links equs i l d a (index_inside equs i body h)
      ∙ ap (map (equ_in source equs)) (ap (λ (e : EquView). e.tokens) (value_is equs i body d h) ∙ sym t))
