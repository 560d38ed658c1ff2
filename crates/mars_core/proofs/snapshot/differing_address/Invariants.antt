use Rattle.std.proofs.Common.{◌≡◌, ℕ, ◌<◌}
use Rattle.mars_core.specs.Core.{cell_at}
use Rattle.mars_core.proofs.snapshot.differing_address.Given as goal

-- the cells so far are the same
abbrev pub invariant-loop-at : goal.invariant-loop-at
invariant-loop-at g l = (k : ℕ) → k < l.at → cell_at (g.C.Store.items l.fn.x) k ≡ cell_at (g.C.Store.items l.fn.y) k
