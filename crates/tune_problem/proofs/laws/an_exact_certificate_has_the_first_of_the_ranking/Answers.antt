use Rattle.tune_problem.proofs.ListedRanks.{listed_is_ranking}
use Rattle.tune_problem.proofs.laws.an_exact_certificate_has_the_first_of_the_ranking.Goals as goal

pub returns : goal.returns
returns c = λ p cert aim laws is_aim valid exact. listed_is_ranking p laws cert valid aim is_aim exact
