use Rattle.std.proofs.Common.{◌≡◌, ℕ, ◌<◌, length, get_or}
use Rattle.mars_core.proofs.tasks.have_same_tasks.Given as goal

-- the tasks so far are the same
abbrev pub invariant-loop-index : goal.invariant-loop-index
invariant-loop-index g l = record {
  size : length (g.Q.Tasks.held l.fn.one).items ≡ length (g.Q.Tasks.held l.fn.other).items;
  same : (k : ℕ) → k < l.index → get_or (g.Q.Tasks.held l.fn.one).items k 0 ≡ get_or (g.Q.Tasks.held l.fn.other).items k 0;
}
