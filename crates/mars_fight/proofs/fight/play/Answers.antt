use Rattle.mars_fight.proofs.Points.{outcome_points}
use Rattle.mars_fight.proofs.fight.play.Goals as goal

pub returns-clause-points : goal.returns-clause-points
returns-clause-points g c = outcome_points _ _ _ _ _ c.run-outcome.ensures.outcome
