use Rattle.tune_search.proofs.OneAnswer.{answer_one, found_one}
use Rattle.tune_search.proofs.laws.a_search_has_one_answer.Goals as goal

pub returns-clause-findings : goal.returns-clause-findings
returns-clause-findings c = λ p aim method f g is_aim s t. answer_one p aim method f g s t is_aim

pub returns-clause-alone : goal.returns-clause-alone
returns-clause-alone c = found_one
