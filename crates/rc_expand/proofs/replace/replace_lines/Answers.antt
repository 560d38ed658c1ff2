use Rattle.std.proofs.Common.{◌∙◌, ap, sym, arith, refl}
use Rattle.std.specs.Prelude.{Ok}
use Rattle.std.proofs.lemmas.Result.{err_from_is_err_and}
use Rattle.rc_expand.specs.Contexts.{seen_context}
use Rattle.rc_expand.specs.Replace.Lines.{LinesSoFarView}
use Rattle.rc_expand.proofs.Replacing.LineSteps.{line_next, line_fails, lines_end, all_replaced}
use Rattle.rc_expand.proofs.replace.replace_lines.Goals as goal

pub loop-i-preserved : goal.loop-i-preserved
loop-i-preserved c =
    let k = seen_context c.args.context.now in
    c.loop-i.invariant
    ∙ line_next k c.args.reached.now c.loop-i.i c.loop-i.out c.index-reached-i.result c.loop-i-test.true c.index-reached-i.is
    c.replace_reached.new.out c.in_ok-replace_reached.ensures

pub returns-in_err-replace_reached : goal.returns-in_err-replace_reached
returns-in_err-replace_reached c =
    let k = seen_context c.args.context.now in
    let p = err_from_is_err_and c.from_residual.result c.from_residual.ensures.1 in
    rw (p.1, p.2) (λ h. all_replaced k c.args.reached.now _ _
    (c.loop-i.invariant
    ∙ line_fails k c.args.reached.now c.loop-i.i c.loop-i.out c.index-reached-i.result c.loop-i-test.true c.index-reached-i.is
    c.in_err-replace_reached.field-0.0 (c.in_err-replace_reached.ensures h))
    refl)

pub returns : goal.returns
returns c =
    let k = seen_context c.args.context.now in
    all_replaced k c.args.reached.now _ _
    (c.loop-i.invariant ∙ lines_end k c.args.reached.now c.loop-i.i c.loop-i.out (omega (arith, c.loop-i-test.false)))
    refl
    ∙ ap (λ (r : LinesSoFarView). Ok r.lines) (sym c.out-2.view_is)
