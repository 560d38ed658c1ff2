use Rattle.std.proofs.Common.{◌≡◌, take}
use Rattle.rc_expand.proofs.unroll.reached.clone_copies.Given as goal

abbrev pub invariant-loop-copy : goal.invariant-loop-copy
invariant-loop-copy l = l.cloned.items ≡ take l.copy-index l.copies
