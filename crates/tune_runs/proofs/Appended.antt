-- Texts that are appended one after another.
use Rattle.std.proofs.Common.{◌≡◌, ℕ, List, ◌++◌, append_assoc, ◌∙◌, ap}

pub more : (old a b x y : List ℕ) → x ≡ old ++ a → y ≡ x ++ b → y ≡ old ++ (a ++ b)
more old a b x y p q = q ∙ ap (λ (t : List ℕ). t ++ b) p ∙ append_assoc old a b
