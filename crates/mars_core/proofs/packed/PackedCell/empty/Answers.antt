use Rattle.std.proofs.Common.{rules}
use Rattle.mars_core.proofs.Packing.{classed_packed}
use Rattle.mars_core.proofs.packed.PackedCell.empty.Goals as goal

pub invariant_of-result : goal.invariant_of-result
invariant_of-result c = record { classed = classed_packed _ _ c.pack.ensures (search rules) (search rules) }
