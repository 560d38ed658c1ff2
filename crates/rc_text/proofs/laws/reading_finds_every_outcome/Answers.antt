use Rattle.rc_text.proofs.Evaluation.{evaluation_of_outcome}
use Rattle.rc_text.proofs.laws.reading_finds_every_outcome.Goals as goal

pub returns : goal.returns
returns c = evaluation_of_outcome
