-- The copies of a block, one after the other.
use Rattle.std.proofs.Common.{◌≡◌, ℕ, suc, ◌+◌, ◌-◌, ◌<◌, ap, arith}
use Rattle.rc_instr.specs.Results.{and_then}
use Rattle.rc_expand.specs.Unroll.{UnrolledSoFarView, Step, copies_from}

-- a copy and the copies after it
pub copies_step : (f : ℕ → Step) (count done : ℕ) (u : UnrolledSoFarView) → done < count
    → copies_from f (count - done) (done + 1) u ≡ and_then (copies_from f (count - (done + 1)) (done + 1 + 1)) (f (done + 1) u)
copies_step f count done u h = let e : count - done ≡ suc (count - (done + 1)) = omega arith in ap (λ n. copies_from f n (done + 1) u) e
