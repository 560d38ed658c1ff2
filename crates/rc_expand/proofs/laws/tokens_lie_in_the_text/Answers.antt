use Rattle.rc_expand.proofs.Spans.{expansion_lies}
use Rattle.rc_expand.proofs.laws.tokens_lie_in_the_text.Goals as goal

pub returns : goal.returns
returns c = expansion_lies
