use Rattle.tune_problem.proofs.PartSteps.{all_parts, whole_list}
use Rattle.tune_problem.proofs.laws.parts_make_the_whole.Goals as goal

pub returns-clause-parts : goal.returns-clause-parts
returns-clause-parts c = λ settings parts some few. all_parts settings parts few some

pub returns-clause-whole : goal.returns-clause-whole
returns-clause-whole c = whole_list
