use Rattle.std.specs.Prelude.{Ok}
use Rattle.rc_text.proofs.Evaluation.{value_of_evaluation, evaluation_of_outcome}
use Rattle.rc_text.proofs.laws.reading_finds_the_value.Goals as goal

pub returns : goal.returns
returns c = λ names symbols x. (value_of_evaluation names symbols x, evaluation_of_outcome names symbols (Ok x))
