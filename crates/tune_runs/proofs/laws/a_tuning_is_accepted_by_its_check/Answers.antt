use Rattle.tune_runs.proofs.AimedChecks.{agree}
use Rattle.tune_runs.proofs.laws.a_tuning_is_accepted_by_its_check.Goals as goal

pub returns : goal.returns
returns c = agree
