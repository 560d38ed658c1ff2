use Rattle.std.proofs.Common.{arith}
use Rattle.mars_core.proofs.Snapshots.{same_cells}
use Rattle.mars_core.proofs.snapshot.differing_address.Goals as goal

pub returns : goal.returns
returns g c _ = same_cells _ _ c.requires.size (λ k l. c.loop-at.invariant k (omega arith))
