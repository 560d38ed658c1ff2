use Rattle.std.proofs.Common.{◌+◌, ◌-◌, ◌*◌, ◌≤◌}
use Rattle.mars_core.proofs.Snapshots.{IsEarlier}
use Rattle.mars_core.proofs.Stretches.{CyclesMade}
use Rattle.mars_core.proofs.fight_loop.decide.Given as goal

-- whole cycles were made, and the snapshot is of an earlier state
abbrev pub invariant-loop-done : goal.invariant-loop-done
invariant-loop-done g l =
    let items = g.C.Store.items in
    let held = g.C.Queue.Tasks.held in
    record {
      made : CyclesMade l.size (items l.fn.cells) (held l.fn.mine) (held l.fn.theirs) l.done (items l.cells) (held l.mine) (held l.theirs);
      earlier : IsEarlier l.size (items l.fn.cells) (held l.fn.mine) (held l.fn.theirs) l.done l.snapshot;
      within : l.done ≤ l.cycles;
      marks : g.C.Store.marks l.cells ≤ g.C.Store.marks l.fn.cells + 6 * l.done;
    }

abbrev pub decreases-loop-done : goal.decreases-loop-done
decreases-loop-done g l = l.cycles - l.done
