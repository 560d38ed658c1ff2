use Rattle.std.proofs.Common.{◌≡◌, ◌+◌, ◌-◌, ℕ, length, arith, sym, ◌∙◌, ap}
use Rattle.mars_core.specs.declared.side.Side.{Side}
use Rattle.mars_core.proofs.Stretches.{none_made, more_made, made_in, played_after}
use Rattle.mars_core.proofs.Returns.{takes_all, leaves_last}
use Rattle.mars_core.proofs.Snapshots.{none_earlier, still_earlier, is_back}
use Rattle.mars_core.proofs.fight_loop.decide.Goals as goal

-- no turn was made, and no state taken
pub loop-done-init : goal.loop-done-init
loop-done-init g c =
    let fresh : c.forget.new.self.cycles ≡ 0 = ap (λ s. s.cycles) c.forget.ensures in
    record {
      made = none_made _ _ _ _ _ c.requires.can_play;
      earlier = none_earlier _ _ _ _ _ fresh (ap (λ s. length s.core) c.forget.ensures ∙ c.requires.snapshot);
      within = omega arith;
      marks = omega arith;
    }

-- a side has lost its last task
pub returns-then-turns-clause-played : goal.returns-then-turns-clause-played
returns-then-turns-clause-played g c =
    played_after _ _ _ _ _ _ _ _ _ _ c.args.cycles c.loop-done.done 2000 c.alternate-turns.result c.loop-done.invariant.made c.alternate-turns.ensures.played
    c.requires.can_play.same_room (omega arith) (λ l. omega arith)

-- the state has come back
pub returns-in-Some-clause-played : goal.returns-in-Some-clause-played
returns-in-Some-clause-played g c =
    let h = c.loop-done.invariant in
    let rest = c.play_on.ensures.played in
    let now : ℕ = c.loop-done.done + 2000 in
    let made = more_made _ _ _ _ _ _ _ _ _ _ c.loop-done.done 2000 c.alternate-turns.result h.made c.alternate-turns.ensures.played (omega arith) in
    let back = is_back _ _ _ _ _ _ _ c.loop-done.done now c.in-Some.period _ h.earlier made (omega arith) c.in-Some.ensures.back in
    record {
      turns_are = λ (first : Side). sym (takes_all _ _ first c.args.cycles now (c.args.cycles - now) c.in-Some.period _ _ _ (made.going first) (back first) (omega arith));
      state_is = λ (first : Side). leaves_last _ _ _ first c.args.cycles now (c.args.cycles - now) c.in-Some.period c.play_on.result _ _ _ _ _ _
          made.my_room (made.going first) (back first) (omega arith) (rest.turns_are first) (rest.state_is first);
      within = omega arith;
      core_holds = rest.core_holds;
      mine_below = rest.mine_below;
      theirs_below = rest.theirs_below;
      my_room = rest.my_room ∙ made.my_room;
      their_room = rest.their_room ∙ made.their_room ∙ sym c.requires.can_play.same_room;
    }

-- a stretch more, with the snapshot as it was or taken now
pub loop-done-preserved : goal.loop-done-preserved
loop-done-preserved g c =
    let h = c.loop-done.invariant in
    let more = c.alternate-turns.ensures in
    let made = more_made _ _ _ _ _ _ _ _ _ _ c.loop-done.done 2000 c.alternate-turns.result h.made more.played (omega arith) in
    record {
      made = made;
      earlier = still_earlier _ _ _ _ _ _ _ c.loop-done.done _ _ _ _ h.earlier (omega arith) made c.period.ensures.kept c.renew.ensures;
      within = omega arith;
      marks = omega (arith, h.marks, more.marks, more.played.within);
    }

-- the same, and then all cells are marked
pub loop-done-preserved-then-done-size : goal.loop-done-preserved-then-done-size
loop-done-preserved-then-done-size g c =
    let h = c.loop-done.invariant in
    let more = c.alternate-turns.ensures in
    let made = more_made _ _ _ _ _ _ _ _ _ _ c.loop-done.done 2000 c.alternate-turns.result h.made more.played (omega arith) in
    record {
      made = made_in _ _ _ _ _ _ _ _ _ c.mark_all.ensures.items made;
      earlier = still_earlier _ _ _ _ _ _ _ c.loop-done.done _ _ _ _ h.earlier (omega arith) made c.period.ensures.kept c.renew.ensures;
      within = omega arith;
      marks = omega (arith, c.mark_all.ensures.marks, more.played.core_holds.size);
    }

-- the last cycles were made
pub returns-clause-played : goal.returns-clause-played
returns-clause-played g c =
    played_after _ _ _ _ _ _ _ _ _ _ c.args.cycles c.loop-done.done (c.args.cycles - c.loop-done.done) c.alternate.result c.loop-done.invariant.made c.alternate.ensures.played
    c.requires.can_play.same_room (omega arith) (λ l. omega arith)
