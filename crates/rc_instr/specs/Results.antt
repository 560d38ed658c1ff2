-- Results chained as by `?`; and `Returns`: a call returns what a definition gives.
use Rattle.std.specs.Prelude.{◌≡◌, Bool, Result, Ok, Err, if◌then◌else◌}

-- Changes the value and keeps the fault.
abbrev pub mapped : {A B E : Type 0} → (A → B) → Result A E → Result B E
mapped f (Ok x) = Ok (f x)
mapped f (Err e) = Err e

-- Changes the fault and keeps the value.
abbrev pub with_fault : {A D E : Type 0} → (D → E) → Result A D → Result A E
with_fault f (Ok x) = Ok x
with_fault f (Err e) = Err (f e)

-- Goes on with the value. A fault is the fault of the whole.
abbrev pub and_then : {A B E : Type 0} → (A → Result B E) → Result A E → Result B E
and_then f (Ok x) = f x
and_then f (Err e) = Err e

-- The same, read from left to right, as `?` in code. `do` is made of it.
infixl 10 ◌>>=◌
abbrev pub ◌>>=◌ : {A B E : Type 0} → Result A E → (A → Result B E) → Result B E
r >>= f = and_then f r

-- A check: goes on if the condition holds, and is this fault if not.
abbrev pub check : {E : Type 0} → Bool → E → Result (Unit {0}) E
check holds fault = if holds then Ok tt else Err fault

-- A call returns what the definition gives, seen through `view`, unless memory runs out.
-- `IsOutOfMemory` says which faults are out of memory.
abbrev pub Returns : {A B E : Type 0} → (IsOutOfMemory : E → Type 0) → (view : A → B) → (result : Result A E) → (definition : Result B E) → Type 0
Returns IsOutOfMemory view (Ok x) r = r ≡ Ok (view x)
Returns IsOutOfMemory view (Err e) r = (¬ IsOutOfMemory e) → r ≡ Err e
