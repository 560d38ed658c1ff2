use Rattle.rc_text.proofs.GapSteps.{lie_in_the_text}
use Rattle.rc_text.proofs.laws.tokens_lie_in_the_text.Goals as goal

pub returns : goal.returns
returns c = lie_in_the_text
