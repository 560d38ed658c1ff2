use Rattle.rc_text.proofs.GapSteps.{in_order_after_header, only_gaps}
use Rattle.rc_text.proofs.laws.tokens_skip_blanks_and_comments.Goals as goal

pub returns-clause-order : goal.returns-clause-order
returns-clause-order c = in_order_after_header

pub returns-clause-gaps : goal.returns-clause-gaps
returns-clause-gaps c = only_gaps
