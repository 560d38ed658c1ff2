use Rattle.tune_runs.proofs.SharedChecks.{shared_answer, in_each_share, names_optimum}
use Rattle.tune_runs.proofs.laws.accepted_shares_name_the_optimum.Goals as goal

pub returns-clause-answer : goal.returns-clause-answer
returns-clause-answer c = shared_answer

pub returns-clause-each : goal.returns-clause-each
returns-clause-each c = in_each_share

pub returns-clause-optimum : goal.returns-clause-optimum
returns-clause-optimum c = names_optimum
