-- What a reader held.
use Rattle.std.specs.Prelude.{◌≡◌, ℕ, List, Option, IfSome}

-- The text is what the input held, if that is known.
abbrev pub IsInput : Option (List ℕ) → List ℕ → Type 0
IsInput known text = IfSome known (λ bytes. text ≡ bytes)
