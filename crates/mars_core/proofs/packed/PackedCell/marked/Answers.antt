use Rattle.std.proofs.Common.{refl}
use Rattle.mars_core.proofs.Packing.{classed_marked}
use Rattle.mars_core.proofs.packed.PackedCell.marked.Goals as goal

pub invariant_of-result : goal.invariant_of-result
invariant_of-result c = record { classed = classed_marked _ _ refl c.args.self.classed }
