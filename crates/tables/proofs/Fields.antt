-- The fields of a record, one by one.
use Rattle.std.proofs.Common.{◌≡◌, ◌≤◌, ℕ, List, [], ◌∷◌, zero, suc, length, Some, None, arith}
use Rattle.std.specs.Prelude.{Option}
use Rattle.csv.specs.Records.{field_at}

-- the three fields of a record are its first, its second and its third
pub three : (fields : List (List ℕ)) (a b c : List ℕ) → length fields ≡ 3 → Some a ≡ field_at fields 0 → Some b ≡ field_at fields 1 → Some c ≡ field_at fields 2 → fields ≡ a ∷ b ∷ c ∷ []
unfolding field_at
three [] a b c n p q r = absurd (omega arith)
three (x ∷ []) a b c n p q r = absurd (omega arith)
three (x ∷ y ∷ []) a b c n p q r = absurd (omega arith)
three (x ∷ y ∷ z ∷ []) a b c n p q r = cc
three (x ∷ y ∷ z ∷ w ∷ more) a b c n p q r = absurd (omega arith)

-- the four fields of a record are its first to its fourth
pub four : (fields : List (List ℕ)) (a b c d : List ℕ) → length fields ≡ 4 → Some a ≡ field_at fields 0 → Some b ≡ field_at fields 1 → Some c ≡ field_at fields 2 → Some d ≡ field_at fields 3
    → fields ≡ a ∷ b ∷ c ∷ d ∷ []
unfolding field_at
four [] a b c d n p q r t = absurd (omega arith)
four (x ∷ []) a b c d n p q r t = absurd (omega arith)
four (x ∷ y ∷ []) a b c d n p q r t = absurd (omega arith)
four (x ∷ y ∷ z ∷ []) a b c d n p q r t = absurd (omega arith)
four (x ∷ y ∷ z ∷ w ∷ []) a b c d n p q r t = cc
four (x ∷ y ∷ z ∷ w ∷ v ∷ more) a b c d n p q r t = absurd (omega arith)

-- if there is no field at an index, the record ends before it
pub no_field : (fields : List (List ℕ)) (i : ℕ) → ◌≡◌ {A = Option (List ℕ)} None (field_at fields i) → length fields ≤ i
unfolding field_at
no_field [] i e = omega arith
no_field (x ∷ fields) zero e = cc
no_field (x ∷ fields) (suc i) e = omega (arith, no_field fields i e)

pub ruleset fields = (three, four, no_field)
