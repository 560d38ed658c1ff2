use Rattle.std.proofs.Common.{◌≡◌, get_or, false, true, arith}
use Rattle.std.proofs.lemmas.Grind.{common_steps}
use Rattle.mars_core.specs.Packed.{is_marked}
use Rattle.mars_core.proofs.Stores.{stored_first, stored_again}
use Rattle.mars_core.proofs.packed_cells.record.Goals as goal

pub returns-then-not-is_marked-clause-store : goal.returns-then-not-is_marked-clause-store
returns-then-not-is_marked-clause-store c =
    let low : is_marked (get_or c.args.words.now.items c.args.at 0) ≡ false = grind (arith, common_steps) in
    stored_first _ _ _ _ _ c.requires.store c.requires.at low c.requires.marked c.requires.classed

pub returns-else-not-is_marked-clause-store : goal.returns-else-not-is_marked-clause-store
returns-else-not-is_marked-clause-store c =
    let high : is_marked (get_or c.args.words.now.items c.args.at 0) ≡ true = grind (arith, common_steps) in
    stored_again _ _ _ _ _ c.requires.store c.requires.at high c.requires.marked c.requires.classed
