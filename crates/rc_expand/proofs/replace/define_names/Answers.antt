use Rattle.std.proofs.Common.{◌∙◌}
use Rattle.std.proofs.lemmas.Result.{err_from_is_err_and}
use Rattle.rc_expand.specs.Contexts.{seen_context}
use Rattle.rc_expand.specs.NameTables.{names_in}
use Rattle.rc_expand.proofs.Replacing.LineSteps.{name_next, name_fails}
use Rattle.rc_expand.proofs.replace.define_names.Goals as goal

pub loop-label-preserved : goal.loop-label-preserved
loop-label-preserved c =
    let k = seen_context c.args.context.now in
    c.loop-label.invariant
    ∙ name_next k c.args.line c.loop-label.rest.now c.in-Some.label.now c.in-Some.after.now c.in-Some.ensures.cases.0 (names_in c.loop-label.names) (names_in c.define_name.new.names) c.in_ok-define_name.ensures

pub returns-in_err-define_name : goal.returns-in_err-define_name
returns-in_err-define_name c =
    let k = seen_context c.args.context.now in
    let p = err_from_is_err_and c.from_residual.result c.from_residual.ensures.1 in
    rw (p.1, p.2) (λ h. c.loop-label.invariant
    ∙ name_fails k c.args.line c.loop-label.rest.now c.in-Some.label.now c.in-Some.after.now c.in-Some.ensures.cases.0 (names_in c.loop-label.names) c.in_err-define_name.field-0.0 (c.in_err-define_name.ensures h))
