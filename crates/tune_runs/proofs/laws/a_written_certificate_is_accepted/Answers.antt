use Rattle.tune_runs.proofs.Certified.{spelled, accepted}
use Rattle.tune_runs.proofs.laws.a_written_certificate_is_accepted.Goals as goal

pub returns-clause-spelled : goal.returns-clause-spelled
returns-clause-spelled c = spelled

pub returns-clause-accepted : goal.returns-clause-accepted
returns-clause-accepted c = accepted
