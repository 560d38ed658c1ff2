use Rattle.std.proofs.Common.{◌+◌, ◌-◌, ◌*◌, ◌≤◌}
use Rattle.mars_core.proofs.Stretches.{CyclesMade}
use Rattle.mars_core.proofs.fight_loop.play_on.Given as goal

-- whole cycles were made
abbrev pub invariant-loop-played : goal.invariant-loop-played
invariant-loop-played g l =
    let items = g.C.Store.items in
    let held = g.C.Queue.Tasks.held in
    record {
      made : CyclesMade l.size (items l.fn.cells) (held l.fn.mine) (held l.fn.theirs) l.played (items l.cells) (held l.mine) (held l.theirs);
      within : l.played ≤ l.cycles;
      marks : g.C.Store.marks l.cells ≤ g.C.Store.marks l.fn.cells + 6 * l.played;
    }

abbrev pub decreases-loop-played : goal.decreases-loop-played
decreases-loop-played g l = l.cycles - l.played
