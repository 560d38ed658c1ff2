use Rattle.std.proofs.Common.{◌≡◌, ◌+◌, ◌*◌, ◌≤◌, length}
use Rattle.mars_core.specs.Core.{IsCore, AreTasks}
use Rattle.mars_core.specs.Queue.{stretch}
use Rattle.mars_core.specs.State.{seen_from}
use Rattle.mars_core.specs.declared.side.Side.{Side}
use Rattle.mars_core.proofs.Going.{IsGoing}
use Rattle.mars_core.proofs.fight_loop.alternate_turns.Given as goal

-- whole cycles were made, and both sides have tasks
abbrev pub invariant-loop-cycle : goal.invariant-loop-cycle
invariant-loop-cycle g l =
    let items = g.C.Store.items in
    record {
      going : (first : Side) → IsGoing (g.C.Queue.Tasks.held l.fn.mine).capacity (seen_from first (items l.fn.cells) (g.C.Queue.Tasks.held l.fn.mine).items (g.C.Queue.Tasks.held l.fn.theirs).items) first
          (2 * l.cycle) (items l.cells) (g.C.Queue.Tasks.held l.mine).items (g.C.Queue.Tasks.held l.theirs).items;
      mine_some : length (g.C.Queue.Tasks.held l.mine).items ≡ 0 → ⊥;
      theirs_some : length (g.C.Queue.Tasks.held l.theirs).items ≡ 0 → ⊥;
      core : IsCore l.size (items l.cells);
      mine_below : AreTasks l.size (g.C.Queue.Tasks.held l.mine).items;
      theirs_below : AreTasks l.size (g.C.Queue.Tasks.held l.theirs).items;
      mine_room : (g.C.Queue.Tasks.held l.mine).capacity ≡ (g.C.Queue.Tasks.held l.fn.mine).capacity;
      theirs_room : (g.C.Queue.Tasks.held l.theirs).capacity ≡ (g.C.Queue.Tasks.held l.fn.mine).capacity;
      mine_turns : stretch ≤ g.C.Queue.Tasks.turns l.mine + l.cycle;
      theirs_turns : stretch ≤ g.C.Queue.Tasks.turns l.theirs + l.cycle;
      marks : g.C.Store.marks l.cells ≤ g.C.Store.marks l.fn.cells + 6 * l.cycle;
    }
