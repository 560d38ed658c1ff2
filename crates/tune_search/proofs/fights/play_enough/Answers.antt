use Rattle.std.proofs.Common.{arith, ◌≡◌, ◌∙◌, ap, sym, below_more, get_or, subst}
use Rattle.tune_problem.specs.Problem.{problem_of}
use Rattle.mars_fight.specs.Play.{ArePoints}
use Rattle.tune_search.specs.Order.{drops}
use Rattle.tune_search.proofs.Caps.{cap_none, cap_more, cap_room, played_more}
use Rattle.tune_search.proofs.Counted.{none_counted, one_counted}
use Rattle.tune_search.proofs.fights.play_enough.Goals as goal

pub loop-index-init : goal.loop-index-init
loop-index-init g c =
    let p = problem_of c.args.inputs.now in
    record {
      fought = c.new-listing.ensures.items;
      holds = cap_none p c.args.challenge.now.entrant.now.warrior c.args.challenge.now.order.now c.greatest_total-cap.result c.greatest_total-cap.ensures.greatest;
      kept = λ j l. absurd (omega arith);
      blank = c.requires.blank;
      counted = λ small. none_counted _ _ c.new-listing.ensures.items;
    }

pub loop-index-preserved : goal.loop-index-preserved
loop-index-preserved g c =
    let p = problem_of c.args.inputs.now in
    let w = c.args.challenge.now.entrant.now.warrior in
    let order = c.args.challenge.now.order.now in
    let i = c.loop-index.index-index in
    let points : c.fight_points-points.result ≡ p.points w (get_or order i 0) = c.fight_points-points.ensures.points in
    let same : c.from.result ≡ c.fight_points-points.result = c.from.ensures in
    let scores : ArePoints c.from.result = subst ArePoints (sym same) c.fight_points-points.ensures.scores in
    record {
      fought = c.in_ok-push.ensures.items ∙ played_more p w order i _ _ c.loop-index-test.true points c.loop-index.invariant.fought;
      holds = cap_more p w order i _ _ _ c.loop-index-test.true c.requires.order.once (same ∙ points) scores c.fight_weight.ensures.weight c.loop-index.invariant.holds;
      kept = below_more _ _ c.loop-index.invariant.kept (ap (λ n. drops c.args.challenge.now.method c.args.challenge.now.aim n c.args.challenge.now.entrant.now.vector c.args.challenge.now.ranking.now) (sym c.loop-index.invariant.holds) ∙ sym c.drops.ensures ∙ c.if-drops.false);
      blank = c.fight_points-points.ensures.blank;
      counted = one_counted _ _ _ _ _ _ c.in_ok-push.ensures.items c.fight_points-points.ensures.fights c.loop-index.invariant.counted;
    }

pub overflow_sub-cap-in-loop-index : goal.overflow_sub-cap-in-loop-index
overflow_sub-cap-in-loop-index g c =
    let p = problem_of c.args.inputs.now in
    let w = c.args.challenge.now.entrant.now.warrior in
    let order = c.args.challenge.now.order.now in
    let i = c.loop-index.index-index in
    let points : c.fight_points-points.result ≡ p.points w (get_or order i 0) = c.fight_points-points.ensures.points in
    let same : c.from.result ≡ c.fight_points-points.result = c.from.ensures in
    let scores : ArePoints c.from.result = subst ArePoints (sym same) c.fight_points-points.ensures.scores in
    cap_room p w order i _ _ _ c.loop-index-test.true c.requires.order.once (same ∙ points) scores c.fight_weight.ensures.weight c.loop-index.invariant.holds
