use Rattle.std.proofs.Common.{length}
use Rattle.rc_tests.proofs.tokens.tokens_of.Given as goal

abbrev pub decreases-loop-tokens : goal.decreases-loop-tokens
decreases-loop-tokens l = length l.lexer.tokens
