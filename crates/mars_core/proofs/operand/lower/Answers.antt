use Rattle.mars_core.proofs.Operands.{cell_set}
use Rattle.mars_core.proofs.operand.lower.Goals as goal

pub returns-clause-number : goal.returns-clause-number
returns-clause-number g c =
    cell_set _ _ (g.C.Store.items c.args.cells.now) _ c.args.at c.args.field _ c.write.ensures.items c.requires.core c.requires.at c.number.ensures
