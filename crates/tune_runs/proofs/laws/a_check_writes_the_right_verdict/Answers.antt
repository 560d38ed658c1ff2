use Rattle.tune_runs.proofs.Verdicts.{right_line}
use Rattle.tune_runs.proofs.laws.a_check_writes_the_right_verdict.Goals as goal

pub returns : goal.returns
returns c = right_line
