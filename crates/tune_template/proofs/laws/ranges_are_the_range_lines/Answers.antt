use Rattle.tune_template.proofs.RangeLaws.{of_lines, some_setting}
use Rattle.tune_template.proofs.laws.ranges_are_the_range_lines.Goals as goal

pub returns-clause-some : goal.returns-clause-some
returns-clause-some c = some_setting

pub returns-clause-lines : goal.returns-clause-lines
returns-clause-lines c = of_lines
