use Rattle.std.proofs.Common.{◌≡◌, length, arith, refl, sym, ◌∙◌}
use Rattle.std.proofs.lemmas.Bool.{eqb-true}
use Rattle.mars_core.specs.declared.side.Side.{Side}
use Rattle.mars_core.proofs.Going.{over_mine, over_theirs, ends_here, goes_from_the_start}
use Rattle.mars_core.proofs.fight_loop.take_turns.Goals.{then-is_empty-via-then-is_empty, then-is_empty-via-else-is_empty+then-is_empty-2}
use Rattle.mars_core.proofs.fight_loop.take_turns.Goals as goal

-- a side has no task from the start
pub returns-then-is_empty-clause-played : goal.returns-then-is_empty-clause-played
returns-then-is_empty-clause-played g c =
    let start = λ (first : Side). goes_from_the_start (g.C.Queue.Tasks.held c.args.mine).capacity first (g.C.Store.items c.args.cells) (g.C.Queue.Tasks.held c.args.mine).items (g.C.Queue.Tasks.held c.args.theirs).items in
    record {
      turns_are = λ first. elim c.then-is_empty.branch [
        | then-is_empty-via-then-is_empty w ↦
            let none : length (g.C.Queue.Tasks.held c.args.mine).items ≡ 0 = eqb-true _ _ (sym c.is_empty.ensures ∙ w.if-is_empty.true) in
            sym (ends_here _ _ first c.args.cycles 0 _ _ _ (omega arith) (start first) (over_mine first _ _ _ none))
        | then-is_empty-via-else-is_empty+then-is_empty-2 w ↦
            let none : length (g.C.Queue.Tasks.held c.args.theirs).items ≡ 0 = eqb-true _ _ (sym w.is_empty-else-is_empty.ensures ∙ w.if-is_empty-2.true) in
            sym (ends_here _ _ first c.args.cycles 0 _ _ _ (omega arith) (start first) (over_theirs first _ _ _ none))
      ];
      state_is = λ first. refl;
      within = omega arith;
      core_holds = c.requires.can_play.core_holds;
      mine_below = c.requires.can_play.mine_below;
      theirs_below = c.requires.can_play.theirs_below;
      my_room = refl;
      their_room = refl;
    }
