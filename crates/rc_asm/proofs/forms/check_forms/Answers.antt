use Rattle.std.proofs.Common.{sym, ◌∙◌, ap}
use Rattle.rc_instr.specs.Results.{and_then, with_fault}
use Rattle.rc_asm.specs.Faults.{at_line, forms_check}
use Rattle.rc_asm.proofs.forms.check_forms.Goals as goal

pub loop-line-preserved : goal.loop-line-preserved
loop-line-preserved c =
    let s = c.args.source.now in
    c.loop-line.invariant
    ∙ ap (forms_check s) c.in-Some.ensures.cases.0
    ∙ ap (λ f. and_then (λ _. forms_check s c.in-Some.after.now) (with_fault (at_line c.in-Some.line.now.number) f)) (sym c.in-Ok.ensures)
