use Rattle.std.proofs.Common.{◌+◌, ◌*◌, ◌<◌, length}
use Rattle.rc_text.specs.Symbols.{symbols_of}
use Rattle.rc_text.specs.Reading.{ReadsOperand}
use Rattle.rc_text.proofs.expression.+expression.Given as goal

abbrev pub decreases-primary : goal.decreases-primary
decreases-primary g l = 4 * length l.tokens.now

abbrev pub decreases-operand : goal.decreases-operand
decreases-operand g l = 4 * length l.tokens.now + 1

abbrev pub decreases-climb : goal.decreases-climb
decreases-climb g l = 4 * length l.tokens.now + 2

abbrev pub decreases-group : goal.decreases-group
decreases-group g l = 4 * length l.tokens.now + 3

abbrev pub invariant-climb-loop-sign : goal.invariant-climb-loop-sign
invariant-climb-loop-sign g l =
    ReadsOperand (g.N.Names.meaning l.names) l.level l.depth (symbols_of l.source l.tokens) l.left (symbols_of l.source l.rest)
    × (length l.rest < length l.tokens)

abbrev pub decreases-climb-loop-sign : goal.decreases-climb-loop-sign
decreases-climb-loop-sign g l = length l.rest
