use Rattle.std.proofs.Common.{length}
use Rattle.rc_expand.proofs.Reading.ReadSteps.{SoFar}
use Rattle.rc_expand.proofs.Reading.TextFaults.{Follows}
use Rattle.rc_expand.proofs.read.lines.read_lines.Given as goal

abbrev pub invariant-loop-line : goal.invariant-loop-line
invariant-loop-line l =
    SoFar l.source l.lines.items l.line.items l.lexer.tokens
    × Follows l.source l.lexer

abbrev pub decreases-loop-line : goal.decreases-loop-line
decreases-loop-line l = length l.lexer.tokens
