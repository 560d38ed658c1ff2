-- Numbers in a row, one more.
use Rattle.std.proofs.Common.{◌≡◌, ℕ, zero, suc, ◌+◌, arith, [], ◌∷◌, ◌++◌, ◌∙◌, ap, add-one, zero-add}
use Rattle.std.specs.List.{range_with_len, sum_by}
use Rattle.std.proofs.lemmas.List.Sums.{sum_by-append, sum_by-cons}

up : (a n : ℕ) → range_with_len a (suc n) ≡ range_with_len a n ++ (a + n) ∷ []
up a zero = let e : a ≡ a + 0 = omega arith in ap (λ k. k ∷ []) e
up a (suc n) = let e : (a + 1) + n ≡ a + suc n = omega arith in ap (λ l. a ∷ l) (up (a + 1) n ∙ ap (λ k. range_with_len (a + 1) n ++ k ∷ []) e)

pub range_more : (n : ℕ) → range_with_len 0 (n + 1) ≡ range_with_len 0 n ++ n ∷ []
range_more n = ap (range_with_len 0) (add-one n) ∙ up 0 n ∙ ap (λ k. range_with_len 0 n ++ k ∷ []) (zero-add n)

-- a sum over one more number
pub sum_more : (f : ℕ → ℕ) (n : ℕ) → sum_by f (range_with_len 0 (n + 1)) ≡ sum_by f (range_with_len 0 n) + f n
sum_more f n =
    let one : sum_by f (n ∷ []) ≡ f n + sum_by f [] = sum_by-cons f n [] in
    let all : sum_by f (range_with_len 0 n ++ n ∷ []) ≡ sum_by f (range_with_len 0 n) + sum_by f (n ∷ []) = sum_by-append f (range_with_len 0 n) (n ∷ []) in
    ap (sum_by f) (range_more n) ∙ (all ∙ omega (arith, one))
