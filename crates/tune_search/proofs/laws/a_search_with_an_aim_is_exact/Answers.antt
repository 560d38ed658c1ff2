use Rattle.tune_search.proofs.ExactRows.{is_exact, lists_ranking}
use Rattle.tune_search.proofs.laws.a_search_with_an_aim_is_exact.Goals as goal

pub returns-clause-exact : goal.returns-clause-exact
returns-clause-exact c = λ p aim method f laws is_aim start s. is_exact p laws aim is_aim start method f s

pub returns-clause-ranking : goal.returns-clause-ranking
returns-clause-ranking c = λ p aim method f laws is_aim start s. lists_ranking p laws aim is_aim start method f s
