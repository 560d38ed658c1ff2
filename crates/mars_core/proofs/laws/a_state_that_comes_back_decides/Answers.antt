use Rattle.mars_core.proofs.Returns.{lasts_for_ever, left_out}
use Rattle.mars_core.proofs.laws.a_state_that_comes_back_decides.Goals as goal

pub returns-clause-turns : goal.returns-clause-turns
returns-clause-turns c = lasts_for_ever

pub returns-clause-state : goal.returns-clause-state
returns-clause-state c = left_out
