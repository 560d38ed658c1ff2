-- Sums modulo the size of the core.
use Rattle.std.proofs.Common.{◌≡◌, ℕ, ◌+◌, ◌-◌, ◌%◌, ◌<◌, sym, ◌∙◌, ap, arith, add_assoc, add-zero}
use Rattle.std.proofs.Math.Nat.{add-mod-mod, add-mod_right, mod-add-mod, mod-eq_of_lt, mod_self}
use Rattle.mars_core.specs.Core.{sum_of, difference_of}

-- nothing is added
pub sum_zero : (m x : ℕ) → x < m → sum_of m x 0 ≡ x
unfolding sum_of
sum_zero m x l = ap (λ n. n % m) (add-zero x) ∙ mod-eq_of_lt l

-- it does not matter which two are added first
pub sum_along : (m x y z : ℕ) → sum_of m (sum_of m x y) z ≡ sum_of m x (sum_of m y z)
unfolding sum_of
sum_along m x y z =
    mod-add-mod (x + y) m z ∙ ap (λ n. n % m) (add_assoc x y z) ∙ sym (add-mod-mod x (y + z) m)

pub ruleset sums = (sum_zero, sum_along)

-- a number that is lowered or raised by 1
pub lowered_zero : (m x : ℕ) → x ≡ 0 → 1 < m → m - 1 ≡ difference_of m x 1
unfolding difference_of
lowered_zero m x e l = let h : x + (m - 1) ≡ m - 1 = omega (arith, e) in sym (ap (λ n. n % m) h ∙ mod-eq_of_lt (omega arith))

pub lowered_some : (m x : ℕ) → 0 < x → x < m → x - 1 ≡ difference_of m x 1
unfolding difference_of
lowered_some m x s l =
    let h : x + (m - 1) ≡ (x - 1) + m = omega arith in
    sym (ap (λ n. n % m) h ∙ add-mod_right (x - 1) m ∙ mod-eq_of_lt (omega arith))

pub raised_last : (m x : ℕ) → x + 1 ≡ m → 0 ≡ sum_of m x 1
unfolding sum_of
raised_last m x e = sym (ap (λ n. n % m) e ∙ mod_self m)

pub raised_some : (m x : ℕ) → x + 1 < m → x + 1 ≡ sum_of m x 1
unfolding sum_of
raised_some m x l = sym (mod-eq_of_lt l)

pub ruleset by_one = (lowered_zero, lowered_some, raised_last, raised_some)
