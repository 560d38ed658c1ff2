use Rattle.std.proofs.Common.{arith, ◌∙◌, ap, sym, subst, length, List, All}
use Rattle.mars_fight.specs.Listed.{IsWeight, greatest_total}
use Rattle.mars_fight.specs.declared.fight.Fight.{Fight}
use Rattle.tables.specs.Records.{records_of}
use Rattle.mars_fight.proofs.Listed.{scheduled_fights, are_weights}
use Rattle.mars_fight.proofs.schedule.Schedule.read.Goals as goal

pub returns-clause-fit : goal.returns-clause-fit
returns-clause-fit c = scheduled_fights c.args.rules.now c.args.opponents (records_of c.args.bytes.now) _ c.in_ok-fights.ensures.fights

pub invariant_of-result : goal.invariant_of-result
invariant_of-result c = (
  c.in_ok-fights.ensures.few.0,
  c.in_ok-fights.ensures.few.1,
  are_weights c.args.rules.now c.args.opponents _ (scheduled_fights c.args.rules.now c.args.opponents (records_of c.args.bytes.now) _ c.in_ok-fights.ensures.fights),
  c.greatest_of-greatest.ensures.greatest ∙ ap greatest_total c.as_slice.ensures.value,
  omega (arith, c.greatest_of-greatest.ensures.small, ap length c.as_slice.ensures.value),
)

pub greatest_of-greatest-requires-clause-weights : goal.greatest_of-greatest-requires-clause-weights
greatest_of-greatest-requires-clause-weights c =
    let all = are_weights c.args.rules.now c.args.opponents _ (scheduled_fights c.args.rules.now c.args.opponents (records_of c.args.bytes.now) _ c.in_ok-fights.ensures.fights) in
    subst (λ (fs : List Fight). All (λ (f : Fight). IsWeight f.weight) fs) (sym c.as_slice.ensures.value) all
