-- Texts that are read up to a limit.
use Rattle.std.proofs.Common.{◌≡◌, ℕ, ◌+◌, ◌≤◌, List, [], ◌++◌, length, take, min, arith, ◌∙◌, ap, length-take}
use Rattle.std.specs.Prelude.{Option, Some, None, IfSome}
use Rattle.std.specs.Option.{option_map}
use Rattle.std.proofs.lemmas.List.{take_all}

-- a text that was read up to `limit + 1` bytes, and has at most `limit`, is the whole
whole : (limit : ℕ) (xs text : List ℕ) → text ≡ take (limit + 1) xs → length text ≤ limit → text ≡ xs
whole limit xs text e short =
    let counted : length text ≡ min (limit + 1) (length xs) = ap length e ∙ length-take (limit + 1) xs in
    e ∙ take_all (limit + 1) xs (omega (arith, counted, short))

-- the same of what a reader has left, where that is known
pub whole_text : (known : Option (List ℕ)) (room limit : ℕ) (before text : List ℕ) → room ≡ limit + 1 → before ≡ [] →
    IfSome (option_map (take room) known) (λ xs. text ≡ before ++ xs) → length text ≤ limit → IfSome known (λ xs. text ≡ xs)
whole_text None room limit before text r b h short = tt
whole_text (Some xs) room limit before text r b h short =
    whole limit xs text (h ∙ ap (λ o. o ++ take room xs) b ∙ ap (λ n. take n xs) r) short
