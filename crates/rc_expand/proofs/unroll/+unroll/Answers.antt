use Rattle.std.proofs.Common.{◌∙◌, ap}
use Rattle.std.proofs.lemmas.Result.{err_from_is_err_and}
use Rattle.rc_instr.specs.Results.{and_then}
use Rattle.rc_expand.specs.Unroll.Steps.{step_of_copy}
use Rattle.rc_expand.proofs.Unrolling.UnrollSteps.{copies_step}
use Rattle.rc_expand.proofs.unroll.+unroll.Goals as goal

pub append_copies-returns-in_err-append_copy : goal.append_copies-returns-in_err-append_copy
append_copies-returns-in_err-append_copy t c =
    let f = step_of_copy c.args.context.now c.args.copies.now c.args.block.now in
    let p = err_from_is_err_and c.from_residual.result c.from_residual.ensures.1 in
    rw (p.1, p.2) (λ h. c.loop-done.invariant ∙ (copies_step f c.args.block.now.count c.loop-done.done c.loop-done.out c.loop-done-test.true ∙ ap (and_then _) (c.in_err-append_copy.ensures h)))

pub append_copies-loop-done-preserved : goal.append_copies-loop-done-preserved
append_copies-loop-done-preserved t c =
    let f = step_of_copy c.args.context.now c.args.copies.now c.args.block.now in
    c.loop-done.invariant ∙ (copies_step f c.args.block.now.count c.loop-done.done c.loop-done.out c.loop-done-test.true ∙ ap (and_then _) c.in_ok-append_copy.ensures)
