use Rattle.tune_problem.proofs.BelowFloors.{all_below}
use Rattle.tune_problem.proofs.laws.a_certificate_below_a_floor_is_right.Goals as goal

pub returns : goal.returns
returns c = λ p floor version rows laws valid. all_below p laws floor version rows valid
