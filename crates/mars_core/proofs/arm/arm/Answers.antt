use Rattle.mars_core.proofs.Canonical.{executed}
use Rattle.mars_core.proofs.ClassParts.{coded}
use Rattle.mars_core.proofs.arm.arm.Goals as goal

pub returns-clause-executed : goal.returns-clause-executed
returns-clause-executed g c =
    let parts = coded _ _ _ _ _ _ c.requires.class c.requires.frequent c.requires.coded c.requires.codes.1 c.requires.codes.0 c.requires.modes.0 c.requires.modes.1 in
    executed _ _ _ _ _ _ _ _ _ _ _ _ _ _ _ _ c.requires.fetched parts c.a_number.ensures c.b_number.ensures
    c.evaluate_in-a.ensures.evaluated c.evaluate_in-b.ensures.evaluated c.act_as-queued.ensures.acted
