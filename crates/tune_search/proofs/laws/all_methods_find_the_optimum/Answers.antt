use Rattle.tune_search.proofs.OneAnswer.{one_found, one_optimum}
use Rattle.tune_search.proofs.laws.all_methods_find_the_optimum.Goals as goal

pub returns-clause-ranking : goal.returns-clause-ranking
returns-clause-ranking c = one_found

pub returns-clause-alone : goal.returns-clause-alone
returns-clause-alone c = one_optimum
