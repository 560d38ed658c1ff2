-- Constants and how they are told.
use Rattle.std.proofs.Common.{◌≡◌, ℕ, ℤ, ◌<◌, ◌⊎◌, inl, inr, List, [], ◌∷◌, map, length, refl, arith}
use Rattle.std.specs.Prelude.{codes}
use Rattle.tune_template.specs.Instances.{constants_of}
use Rattle.tune_runs.specs.Report.{constants_text, constants_or_none}

pub none_told : {A : Type 0} (f : A → List ℕ) (names : List A) (values : List ℤ) → (length names ≡ 0) ⊎ (length values ≡ 0)
    → constants_or_none (constants_of (map f names) values) ≡ codes " -"
none_told f [] values e = refl
none_told f (n ∷ names) [] e = refl
none_told f (n ∷ names) (v ∷ values) (inl e) = absurd (omega arith)
none_told f (n ∷ names) (v ∷ values) (inr e) = absurd (omega arith)

pub some_told : {A : Type 0} (f : A → List ℕ) (names : List A) (values : List ℤ) → 0 < length names → 0 < length values
    → constants_or_none (constants_of (map f names) values) ≡ constants_text (constants_of (map f names) values)
some_told f [] values some more = absurd (omega arith)
some_told f (n ∷ names) [] some more = absurd (omega arith)
some_told f (n ∷ names) (v ∷ values) some more = refl
