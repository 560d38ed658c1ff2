use Rattle.tune_runs.proofs.Certified.{certified}
use Rattle.tune_runs.proofs.laws.an_accepted_certificate_names_the_optimum.Goals as goal

pub returns : goal.returns
returns c = certified
