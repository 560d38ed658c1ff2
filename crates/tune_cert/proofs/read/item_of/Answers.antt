use Rattle.std.proofs.Common.{◌∙◌, sym}
use Rattle.tune_cert.proofs.Cuts.{no_points, bad_fight, bad_points, good_item}
use Rattle.tune_cert.proofs.read.item_of.Goals as goal

pub returns-in_err-points : goal.returns-in_err-points
returns-in_err-points c = c.from_residual-in_err-points.ensures ∙ sym (no_points c.args.text.now c.cut.result.0.now c.cut.result.1 c.cut.ensures.parts c.in_err-points.was)

pub returns-in_err-number_of : goal.returns-in_err-number_of
returns-in_err-number_of c =
    c.from_residual.ensures ∙ sym (bad_fight c.args.text.now c.cut.result.0.now c.cut.result.1 c.cut.ensures.parts (sym c.number_of.ensures ∙ c.in_err-number_of.was))

pub returns-in_err-points_of : goal.returns-in_err-points_of
returns-in_err-points_of c =
    c.from_residual-in_err-points_of.ensures
    ∙ sym (bad_points c.args.text.now c.cut.result.0.now c.cut.result.1 _ c.cut.ensures.parts c.in_ok-points.was (sym c.points_of.ensures ∙ c.in_err-points_of.was))

pub returns : goal.returns
returns c =
    sym (good_item c.args.text.now c.cut.result.0.now c.cut.result.1 _ _ _ c.cut.ensures.parts c.in_ok-points.was (sym c.number_of.ensures ∙ c.in_ok-number_of.was) (sym c.points_of.ensures ∙ c.in_ok-points_of.was))
