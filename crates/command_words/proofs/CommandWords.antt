-- Lists of words.
use Rattle.std.proofs.Common.{◌≡◌, ◌<◌, ◌≤◌, List, [], ◌∷◌, length, get_or, arith, ap, sym}

-- a list with one item is its first
pub one_item : {X : Type 0} (xs : List X) (x : X) → 1 ≤ length xs → length xs < 2 → x ≡ get_or xs 0 x → xs ≡ x ∷ []
one_item [] x some few first = absurd (omega (arith, some))
one_item (y ∷ []) x some few first = ap (λ z. z ∷ []) (sym first)
one_item (y ∷ z ∷ zs) x some few first = absurd (omega (arith, few))
