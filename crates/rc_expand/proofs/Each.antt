-- Lists that are made item by item.
use Rattle.std.proofs.Common.{◌≡◌, ℕ, ◌+◌, ◌<◌, arith, List, [], ◌∷◌, ◌++◌, get_or, drop, drop-cons, length, refl, sym, ◌∙◌, ap, append_assoc, add-one, Option, Some, None}
use Rattle.std.specs.Prelude.{option_map, option_and_then}
use Rattle.rc_expand.specs.Unroll.Copies.{all_of}

-- an item and what follows it
pub split_at : {A : Type 0} (xs : List A) (i : ℕ) (x : A) → i < length xs → x ≡ get_or xs i x → drop i xs ≡ x ∷ drop (i + 1) xs
split_at xs i x h e =
    let d : drop i xs ≡ get_or xs i x ∷ drop (i + 1) xs = rw add-one (drop-cons xs i x h) in
    d ∙ ap (λ y. y ∷ drop (i + 1) xs) (sym e)

-- two items and what follows them
pub split_two : {A : Type 0} (xs : List A) (i : ℕ) (x y : A) → i + 1 < length xs → x ≡ get_or xs i x → y ≡ get_or xs (i + 1) y → drop i xs ≡ x ∷ y ∷ drop (i + 2) xs
split_two xs i x y h e f =
    let n : i + 1 + 1 ≡ i + 2 = omega arith in
    split_at xs i x (omega (arith, h)) e ∙ ap (λ r. x ∷ r) (split_at xs (i + 1) y h f ∙ ap (λ k. y ∷ drop k xs) n)

-- one more item is made
pub more : {A : Type 0} (ys : List A) (y : A) (o : Option (List A)) → option_map (λ r. ys ++ r) (option_map (λ r. y ∷ r) o) ≡ option_map (λ r. (ys ++ (y ∷ [])) ++ r) o
more ys y None = refl
more ys y (Some r) = ap Some (sym (append_assoc ys (y ∷ []) r))

-- the items made so far, and those still to come
abbrev pub SoFar : {A B : Type 0} → (A → Option B) → List A → List B → ℕ → Type 0
SoFar f xs ys i = all_of f xs ≡ option_map (λ r. ys ++ r) (all_of f (drop i xs))

module _ {A B : Type 0} (f : A → Option B) (xs : List A) where
  step : (x : A) (o : Option B) (i : ℕ) → i < length xs → x ≡ get_or xs i x → o ≡ f x → all_of f (drop i xs) ≡ option_and_then (λ y. option_map (λ ys. y ∷ ys) (all_of f (drop (i + 1) xs))) o
  step x o i h e s = ap (all_of f) (split_at xs i x h e) ∙ ap (option_and_then (λ y. option_map (λ ys. y ∷ ys) (all_of f (drop (i + 1) xs)))) (sym s)

  -- an item is made
  pub so_far_more : (ys : List B) (x : A) (y : B) (i : ℕ) → i < length xs → x ≡ get_or xs i x → Some y ≡ f x → SoFar f xs ys i → SoFar f xs (ys ++ (y ∷ [])) (i + 1)
  so_far_more ys x y i h e s r = r ∙ (ap (option_map (λ r. ys ++ r)) (step x (Some y) i h e s) ∙ more ys y (all_of f (drop (i + 1) xs)))
