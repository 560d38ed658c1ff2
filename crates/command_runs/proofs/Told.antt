-- Parts of a line that are written one after another.
use Rattle.std.proofs.Common.{Bool, true, false, IsTrue, ◌≡◌, ◌<◌, ◌+◌, ℕ, zero, suc, List, [], ◌∷◌, ◌++◌, length, map, get_or, ap, sym, ◌∙◌, arith, append_assoc, append-nil, refl, take}
use Rattle.std.specs.Prelude.{Option, None, Some}
use Rattle.std.specs.List.{concat}
use Rattle.std.specs.Io.KnownBytes.{Appends}

-- what is written after something else is written with it
pub appends_both : (a b c : Option (List ℕ)) (xs ys : List ℕ) → Appends a b xs → Appends b c ys → Appends a c (xs ++ ys)
appends_both None b c xs ys p q = tt
appends_both (Some x) None c xs ys p q = absurd p
appends_both (Some x) (Some y) None xs ys p q = absurd q
appends_both (Some x) (Some y) (Some z) xs ys p q = q ∙ ap (λ r. r ++ ys) p ∙ append_assoc x xs ys

-- the parts up to the next one
parts_up_to : {X : Type 0} (f : X → List ℕ) (xs : List X) (i : ℕ) (d : X) → i < length xs → concat (take i (map f xs)) ++ f (get_or xs i d) ≡ concat (take (suc i) (map f xs))
parts_up_to f [] i d h = absurd (omega (arith, h))
parts_up_to f (x ∷ xs) zero d h = sym (append-nil (f x))
parts_up_to f (x ∷ xs) (suc i) d h = append_assoc (f x) (concat (take i (map f xs))) (f (get_or xs i d)) ∙ ap (λ r. f x ++ r) (parts_up_to f xs i d (omega (arith, h)))

pub parts_next : {X : Type 0} (f : X → List ℕ) (xs : List X) (i : ℕ) (d : X) (text : List ℕ) → i < length xs → text ≡ f (get_or xs i d)
    → concat (take i (map f xs)) ++ text ≡ concat (take (i + 1) (map f xs))
parts_next f xs i d text h is =
    let e : suc i ≡ i + 1 = omega arith in
    ap (λ t. concat (take i (map f xs)) ++ t) is ∙ parts_up_to f xs i d h ∙ ap (λ n. concat (take n (map f xs))) e

-- an outlet that works afterwards worked before
pub worked_before : {X : Type 0} (failed : X → Bool) (old new : X) → (IsTrue (failed old) → new ≡ old) → failed new ≡ false → failed old ≡ false
worked_before failed old new kept works = go (failed old) kept refl
  where
    go : (b : Bool) → (IsTrue b → new ≡ old) → failed old ≡ b → failed old ≡ false
    go false k e = e
    go true k e = let same = k refl in absurd (cc)
