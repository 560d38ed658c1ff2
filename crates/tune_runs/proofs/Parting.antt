-- Bytes that are parted at a line.
use Rattle.std.proofs.Common.{◌≡◌, ℕ, Bool, true, false, List, [], ◌∷◌, ◌++◌, refl, sym, ◌∙◌, ap, append_assoc, append-nil}
use Rattle.std.specs.Prelude.{Option, Some, None, ◌==◌, if◌then◌else◌, codes}
use Rattle.std.specs.Option.{option_map}
use Rattle.tune_runs.specs.FightLines.{after_word, parted, parted_or}

-- the parts of what stands behind the front, with the front before the first
abbrev pub joined : List ℕ → Option (List ℕ × List ℕ) → Option (List ℕ × List ℕ)
joined front parts = option_map (λ p. (front ++ p.0, p.1)) parts

-- a byte goes to the front
joined_more : (front : List ℕ) (c : ℕ) (parts : Option (List ℕ × List ℕ)) →
    joined front (option_map (λ p. (c ∷ p.0, p.1)) parts) ≡ joined (front ++ c ∷ []) parts
joined_more front c None = refl
joined_more front c (Some p) = ap (λ x. Some (x, p.1)) (sym (append_assoc front (c ∷ []) p.0))

-- no line `opponent` begins here
unmarked : (begins : Bool) (here : Option (List ℕ)) (later : Option (List ℕ × List ℕ)) → (begins ≡ true → here ≡ None) →
    parted_or (if begins then here else None) later ≡ later
unmarked true here later h = ap (λ x. parted_or x later) (h refl)
unmarked false here later h = refl

pub goes_on : (begins : Bool) (front bytes rest : List ℕ) (c : ℕ) → bytes ≡ c ∷ rest → (begins ≡ true → after_word (codes "opponent\n") bytes ≡ None) →
    joined front (parted begins bytes) ≡ joined (front ++ c ∷ []) (parted (c == 10) rest)
goes_on begins front bytes rest c e h =
    ap (λ x. joined front (parted begins x)) e
    ∙ ap (joined front) (unmarked begins (after_word (codes "opponent\n") (c ∷ rest)) (option_map (λ p. (c ∷ p.0, p.1)) (parted (c == 10) rest))
    (λ t. ap (after_word (codes "opponent\n")) (sym e) ∙ h t))
    ∙ joined_more front c (parted (c == 10) rest)

-- one does
pub ends_here : (front bytes rest more : List ℕ) (c : ℕ) → bytes ≡ c ∷ more → after_word (codes "opponent\n") bytes ≡ Some rest →
    joined front (parted true bytes) ≡ Some (front, rest)
ends_here front bytes rest more c e h =
    ap (λ x. joined front (parted true x)) e
    ∙ ap (λ x. joined front (parted_or x (option_map (λ p. (c ∷ p.0, p.1)) (parted (c == 10) more)))) (ap (after_word (codes "opponent\n")) (sym e) ∙ h)
    ∙ ap (λ x. Some (x, rest)) (append-nil front)
