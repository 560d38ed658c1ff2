-- Where the settings of a share begin and end.
use Rattle.std.proofs.Common.{◌≡◌, ◌∙◌, ap, ℕ, ◌-◌, ◌*◌, ◌/◌, ◌≤◌, arith}
use Rattle.std.proofs.Math.Nat.{div-mul-le_self, div-le_of_le-mul, mul-le-mul_right, zero-div, mul-div_cancel_left}
use Rattle.std.proofs.lemmas.Nat.{le-div}
use Rattle.tune_problem.specs.Parts.{whole, part_first, part_end}

-- a share ends after it begins
pub rise : (number shares count : ℕ) → 1 ≤ number → number ≤ shares → (number - 1) * count / shares ≤ number * count / shares
rise number shares count one within =
    let below : (number - 1) * count / shares * shares ≤ (number - 1) * count = div-mul-le_self ((number - 1) * count) shares in
    let more : (number - 1) * count ≤ number * count = mul-le-mul_right count (omega arith) in
    le-div ((number - 1) * count / shares) (number * count) shares (omega (arith, one, within)) (omega (arith, below, more))

-- a share ends inside
pub inside : (number shares count : ℕ) → number ≤ shares → number * count / shares ≤ count
inside number shares count within = div-le_of_le-mul shares (mul-le-mul_right count within)

-- share 1 of 1 has all settings
pub whole_bounds : (count : ℕ) → (part_first whole count ≡ 0) × (part_end whole count ≡ count)
whole_bounds count =
    let none : (1 - 1) * count ≡ 0 = omega arith in
    (ap (λ n. n / 1) none ∙ zero-div 1, mul-div_cancel_left count (omega arith))
