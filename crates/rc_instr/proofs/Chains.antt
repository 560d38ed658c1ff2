-- What a chain of results says of its steps.
use Rattle.std.proofs.Common.{◌≡◌, refl, ap, Ok, Err}
use Rattle.std.specs.Prelude.{Result}
use Rattle.rc_instr.specs.Results.{and_then, with_fault}

-- a chain with a value had its first step's value
pub went_on : {A B E : Type 0} (r : Result A E) (f : A → Result B E) (y : B) → and_then f r ≡ Ok y → (x : A) × (r ≡ Ok x) × (f x ≡ Ok y)
went_on (Ok x) f y e = (x, refl, e)
went_on (Err q) f y e = absurd (cc)

-- a wrapped fault is no value
pub ok_of : {A D E : Type 0} (f : D → E) (r : Result A D) (x : A) → with_fault f r ≡ Ok x → r ≡ Ok x
ok_of f (Ok y) x h = let q : y ≡ x = cc in ap Ok q
ok_of f (Err d) x h = absurd (cc)
