use Rattle.std.proofs.Common.{◌≡◌, take}
use Rattle.mars_core.specs.Queue.{queue}
use Rattle.mars_core.proofs.tasks.Tasks.copy_from.Given as goal

-- the first tasks were copied
abbrev pub invariant-loop-index : goal.invariant-loop-index
invariant-loop-index g l = record {
  held : g.Self.Tasks.held l.self ≡ queue (take l.index (g.Self.Tasks.held l.fn.other).items) (g.Self.Tasks.held l.fn.self).capacity;
}
