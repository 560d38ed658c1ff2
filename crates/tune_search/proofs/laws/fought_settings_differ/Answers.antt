use Rattle.tune_problem.specs.Ranking.{best_alone}
use Rattle.tune_search.specs.Found.{as_findings}
use Rattle.tune_search.proofs.Apart.{one_fought}
use Rattle.tune_search.proofs.OneAnswer.{as_search}
use Rattle.tune_search.proofs.laws.fought_settings_differ.Goals as goal

pub returns-clause-findings : goal.returns-clause-findings
returns-clause-findings c = λ p aim method f v u w s start room a b. one_fought p aim method f s start room v u w a.inside b.inside a.candidate b.candidate a.fought b.fought

pub returns-clause-alone : goal.returns-clause-alone
returns-clause-alone c = λ p method f v u w s start room a b.
    one_fought p best_alone method (as_findings f) (as_search p method f s) start room v u w a.inside b.inside a.candidate b.candidate a.fought b.fought
