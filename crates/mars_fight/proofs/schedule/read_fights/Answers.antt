use Rattle.std.proofs.Common.{◌≡◌, ◌∙◌, ◌<◌, sym, arith, length, length-append, ◌++◌, ◌∷◌, []}
use Rattle.std.proofs.lemmas.Grind.{common_steps}
use Rattle.mars_fight.specs.Limits.{MOST_FIGHTS}
use Rattle.mars_fight.proofs.Walking.{one_more}
use Rattle.mars_fight.proofs.schedule.read_fights.Goals as goal

pub loop-fights-preserved : goal.loop-fights-preserved
loop-fights-preserved c =
    let items : c.push.new.self.items ≡ c.loop-fights.fights.items ++ c.in-Ok.fight ∷ [] = c.in_ok-push-in-Ok.ensures.items in
    let next = rw c.if-branch.true at c.in_ok-read.ensures.read in
    let few : length c.loop-fights.fights.items < MOST_FIGHTS = grind (arith, common_steps) in
    record {
      so_far = rw items (one_more _ _ _ c.loop-fights.fights.items _ _ _ _ (rw next at c.loop-fights.invariant.so_far) few (sym c.read_fight.ensures ∙ c.in-Ok.is));
      few = rw (items, length-append) (omega (arith, few));
    }
