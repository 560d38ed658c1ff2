use Rattle.tune_runs.proofs.AcceptedParts.{accepted_line, accepted_text, best_of_all, all_below_of, whole_without}
use Rattle.tune_runs.proofs.laws.accepted_parts_name_the_optimum.Goals as goal

pub returns-clause-line : goal.returns-clause-line
returns-clause-line c = accepted_line

pub returns-clause-answer : goal.returns-clause-answer
returns-clause-answer c = accepted_text

pub returns-clause-optimum : goal.returns-clause-optimum
returns-clause-optimum c = best_of_all

pub returns-clause-below : goal.returns-clause-below
returns-clause-below c = all_below_of

pub returns-clause-none : goal.returns-clause-none
returns-clause-none c = whole_without
