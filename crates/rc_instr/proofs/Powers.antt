-- Powers of ten.
use Rattle.std.proofs.Common.{ℕ, ◌≤◌, ◌^◌, arith}
use Rattle.std.proofs.Math.Nat.{pow-le-pow_right}

-- up to eight digits are less than a hundred million
pub power_small : (i : ℕ) → i ≤ 8 → 10 ^ i ≤ 100000000
power_small i h = omega (arith, pow-le-pow_right {n = 10} (omega arith) {i = i} {j = 8} h)
