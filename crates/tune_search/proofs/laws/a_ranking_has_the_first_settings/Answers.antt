use Rattle.tune_search.proofs.Rankings.{ranking_is}
use Rattle.tune_search.proofs.laws.a_ranking_has_the_first_settings.Goals as goal

pub returns : goal.returns
returns c = λ p aim k is le start. ranking_is p aim is start k le
