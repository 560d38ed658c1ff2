use Rattle.mars_core.proofs.Outcomes.{one_outcome}
use Rattle.mars_core.proofs.laws.a_fight_has_one_outcome.Goals as goal

pub returns : goal.returns
returns c = one_outcome
