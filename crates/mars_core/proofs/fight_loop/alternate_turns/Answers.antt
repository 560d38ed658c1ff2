use Rattle.std.proofs.Common.{◌≡◌, ◌+◌, ◌*◌, length, arith, sym, ◌∙◌, ap}
use Rattle.std.proofs.lemmas.Bool.{eqb-true, eqb-false}
use Rattle.mars_core.specs.Fight.{turns_of}
use Rattle.mars_core.specs.State.{play_of, seen_from}
use Rattle.mars_core.specs.declared.side.Side.{Side}
use Rattle.mars_core.proofs.Going.{mine_moved, theirs_moved, over_mine, over_theirs, ends_here, goes_to_the_end}
use Rattle.mars_core.proofs.fight_loop.alternate_turns.Goals as goal

-- the side that moves first has lost its last task
pub returns-then-next_turn-clause-played : goal.returns-then-next_turn-clause-played
returns-then-next_turn-clause-played g c =
    let h = c.loop-cycle.invariant in
    let moved = λ (first : Side). mine_moved _ _ _ first c.loop-cycle.cycle _ _ _ _ _ h.mine_room c.next_turn.ensures.cells
    (ap (λ b. b.items) c.next_turn.ensures.tasks) h.mine_some h.theirs_some (h.going first) in
    let none : length (g.C.Queue.Tasks.held c.next_turn.new.tasks).items ≡ 0 = eqb-true _ _ (sym c.if-next_turn.ensures.none) in
    record {
      turns_are = λ first. sym (ends_here _ _ first c.args.cycles (2 * c.loop-cycle.cycle + 1) _ _ _ (omega arith) (moved first) (over_mine first _ _ _ none));
      state_is = λ first. (moved first).state;
      within = omega arith;
      core_holds = c.next_turn.ensures.core;
      mine_below = c.next_turn.ensures.below;
      theirs_below = h.theirs_below;
      my_room = ap (λ b. b.capacity) c.next_turn.ensures.tasks ∙ h.mine_room;
      their_room = h.theirs_room ∙ sym c.requires.can_play.same_room;
    }

-- the other side has lost its last task
pub returns-then-next_turn-2-clause-played : goal.returns-then-next_turn-2-clause-played
returns-then-next_turn-2-clause-played g c =
    let h = c.loop-cycle.invariant in
    let some : length (g.C.Queue.Tasks.held c.next_turn.new.tasks).items ≡ 0 → ⊥ = eqb-false _ _ (sym c.if-next_turn.ensures.none) in
    let moved = λ (first : Side).
    let half = mine_moved _ _ _ first c.loop-cycle.cycle _ _ _ _ _ h.mine_room c.next_turn.ensures.cells
    (ap (λ b. b.items) c.next_turn.ensures.tasks) h.mine_some h.theirs_some (h.going first) in
    theirs_moved _ _ _ first c.loop-cycle.cycle _ _ _ _ _ h.theirs_room c.next_turn-in-loop-cycle.ensures.cells
    (ap (λ b. b.items) c.next_turn-in-loop-cycle.ensures.tasks) some h.theirs_some half in
    let none : length (g.C.Queue.Tasks.held c.next_turn-in-loop-cycle.new.tasks).items ≡ 0 = eqb-true _ _ (sym c.if-next_turn-2.ensures.none) in
    let twice : 2 * (c.loop-cycle.cycle + 1) ≡ 2 * c.loop-cycle.cycle + 2 = omega arith in
    record {
      turns_are = λ first. sym twice ∙ sym (ends_here _ _ first c.args.cycles (2 * (c.loop-cycle.cycle + 1)) _ _ _ (omega arith) (moved first) (over_theirs first _ _ _ none));
      state_is = λ first. (moved first).state ∙ ap (play_of _ _ first) twice;
      within = omega arith;
      core_holds = c.next_turn-in-loop-cycle.ensures.core;
      mine_below = c.next_turn.ensures.below;
      theirs_below = c.next_turn-in-loop-cycle.ensures.below;
      my_room = ap (λ b. b.capacity) c.next_turn.ensures.tasks ∙ h.mine_room;
      their_room = ap (λ b. b.capacity) c.next_turn-in-loop-cycle.ensures.tasks ∙ h.theirs_room ∙ sym c.requires.can_play.same_room;
    }

-- a whole cycle more
pub loop-cycle-preserved : goal.loop-cycle-preserved
loop-cycle-preserved g c =
    let h = c.loop-cycle.invariant in
    let some : length (g.C.Queue.Tasks.held c.next_turn.new.tasks).items ≡ 0 → ⊥ = eqb-false _ _ (sym c.if-next_turn.ensures.none) in
    record {
      going = λ first.
          let half = mine_moved _ _ _ first c.loop-cycle.cycle _ _ _ _ _ h.mine_room c.next_turn.ensures.cells
          (ap (λ b. b.items) c.next_turn.ensures.tasks) h.mine_some h.theirs_some (h.going first) in
          theirs_moved _ _ _ first c.loop-cycle.cycle _ _ _ _ _ h.theirs_room c.next_turn-in-loop-cycle.ensures.cells
          (ap (λ b. b.items) c.next_turn-in-loop-cycle.ensures.tasks) some h.theirs_some half;
      mine_some = some;
      theirs_some = eqb-false _ _ (sym c.if-next_turn-2.ensures.none);
      core = c.next_turn-in-loop-cycle.ensures.core;
      mine_below = c.next_turn.ensures.below;
      theirs_below = c.next_turn-in-loop-cycle.ensures.below;
      mine_room = ap (λ b. b.capacity) c.next_turn.ensures.tasks ∙ h.mine_room;
      theirs_room = ap (λ b. b.capacity) c.next_turn-in-loop-cycle.ensures.tasks ∙ h.theirs_room;
      mine_turns = omega (arith, h.mine_turns, c.next_turn.ensures.turns);
      theirs_turns = omega (arith, h.theirs_turns, c.next_turn-in-loop-cycle.ensures.turns);
      marks = omega (arith, h.marks, c.next_turn.ensures.marks, c.next_turn-in-loop-cycle.ensures.marks);
    }

-- all cycles were made
pub returns-clause-played : goal.returns-clause-played
returns-clause-played g c =
    let h = c.loop-cycle.invariant in
    let all : c.loop-cycle.cycle ≡ c.args.cycles = omega arith in
    let whole : 2 * c.loop-cycle.cycle ≡ 2 * c.args.cycles = omega (arith, all) in
    let limit = (g.C.Queue.Tasks.held c.args.mine).capacity in
    let start = λ (first : Side). seen_from first (g.C.Store.items c.args.cells) (g.C.Queue.Tasks.held c.args.mine).items (g.C.Queue.Tasks.held c.args.theirs).items in
    record {
      turns_are = λ first.
          let e = goes_to_the_end limit _ first c.loop-cycle.cycle _ _ _ (h.going first) in
          sym (ap (λ n. turns_of limit (start first) first n) (sym all) ∙ e ∙ whole);
      state_is = λ first. (h.going first).state ∙ ap (play_of limit (start first) first) whole;
      within = omega arith;
      core_holds = h.core;
      mine_below = h.mine_below;
      theirs_below = h.theirs_below;
      my_room = h.mine_room;
      their_room = h.theirs_room ∙ sym c.requires.can_play.same_room;
    }
