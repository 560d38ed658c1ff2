use Rattle.tune_problem.proofs.WholeOfParts.{whole_best, whole_below, none_below, below_none}
use Rattle.tune_problem.proofs.laws.the_best_part_has_the_optimum.Goals as goal

pub returns-clause-best : goal.returns-clause-best
returns-clause-best c = λ i parts number outcome best tuned found. whole_best i parts tuned.some tuned.few outcome tuned.right number best found

pub returns-clause-below : goal.returns-clause-below
returns-clause-below c = λ i parts floor outcome tuned each. whole_below i parts tuned.some tuned.few outcome tuned.right floor each

pub returns-clause-none : goal.returns-clause-none
returns-clause-none c = λ p. (none_below p, λ none. below_none p none 0)
