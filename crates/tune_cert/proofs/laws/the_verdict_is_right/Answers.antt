use Rattle.tune_cert.proofs.RightVerdicts.{one_verdict, right_verdict}
use Rattle.tune_cert.proofs.laws.the_verdict_is_right.Goals as goal

pub returns-clause-one : goal.returns-clause-one
returns-clause-one c = one_verdict

pub returns-clause-right : goal.returns-clause-right
returns-clause-right c = right_verdict
