use Rattle.std.proofs.Common.{◌-◌, arith}
use Rattle.mars_core.proofs.Stretches.{none_made, more_made, played_after}
use Rattle.mars_core.proofs.fight_loop.play_on.Goals as goal

-- no turn was made
pub loop-played-init : goal.loop-played-init
loop-played-init g c = record {
  made = none_made _ _ _ _ _ c.requires;
  within = omega arith;
  marks = omega arith;
}

-- a side has lost its last task
pub returns-then-turns-clause-played : goal.returns-then-turns-clause-played
returns-then-turns-clause-played g c =
    played_after _ _ _ _ _ _ _ _ _ _ c.args.cycles c.loop-played.played 2000 c.alternate-turns.result c.loop-played.invariant.made c.alternate-turns.ensures.played
    c.requires.same_room (omega arith) (λ l. omega arith)

-- a stretch more
pub loop-played-preserved : goal.loop-played-preserved
loop-played-preserved g c =
    let h = c.loop-played.invariant in
    let more = c.alternate-turns.ensures in
    record {
      made = more_made _ _ _ _ _ _ _ _ _ _ c.loop-played.played 2000 c.alternate-turns.result h.made more.played (omega arith);
      within = omega arith;
      marks = omega (arith, h.marks, more.marks, more.played.within);
    }

-- the last cycles were made
pub returns-clause-played : goal.returns-clause-played
returns-clause-played g c =
    played_after _ _ _ _ _ _ _ _ _ _ c.args.cycles c.loop-played.played (c.args.cycles - c.loop-played.played) c.alternate.result c.loop-played.invariant.made c.alternate.ensures.played
    c.requires.same_room (omega arith) (λ l. omega arith)
