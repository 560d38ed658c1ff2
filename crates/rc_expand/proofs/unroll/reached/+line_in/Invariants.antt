use Rattle.std.proofs.Common.{length}
use Rattle.rc_expand.proofs.unroll.reached.+line_in.Given as goal

abbrev pub decreases-line_in : goal.decreases-line_in
decreases-line_in l = length l.copies.now
