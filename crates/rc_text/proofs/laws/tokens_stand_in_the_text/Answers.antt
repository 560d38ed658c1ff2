use Rattle.rc_text.proofs.StandingTokens.{all_stand}
use Rattle.rc_text.proofs.laws.tokens_stand_in_the_text.Goals as goal

pub returns : goal.returns
returns c = all_stand
