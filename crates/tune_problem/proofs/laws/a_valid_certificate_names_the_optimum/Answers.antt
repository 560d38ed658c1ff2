use Rattle.tune_problem.proofs.Certificates.{valid_is_optimum, valid_total, optimum_one}
use Rattle.tune_problem.proofs.Scores.{inputs_problem}
use Rattle.tune_problem.proofs.laws.a_valid_certificate_names_the_optimum.Goals as goal

pub returns-clause-names : goal.returns-clause-names
returns-clause-names c = λ p cert laws valid. (valid_is_optimum p laws cert valid, valid_total p laws cert valid)

pub returns-clause-one : goal.returns-clause-one
returns-clause-one c = optimum_one

pub returns-clause-inputs : goal.returns-clause-inputs
returns-clause-inputs c = λ i. inputs_problem i
