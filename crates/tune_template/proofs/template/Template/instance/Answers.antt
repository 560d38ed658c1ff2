use Rattle.std.proofs.Common.{◌∙◌, ap, subst}
use Rattle.rc_asm.specs.Faults.{Returns}
use Rattle.tune_template.proofs.InstanceSteps.{instance_is}
use Rattle.tune_template.proofs.template.Template.instance.Goals as goal

pub returns-clause-meaning : goal.returns-clause-meaning
returns-clause-meaning c =
    let text = c.deref.ensures.value ∙ ap (λ t. t.text) c.self.view_is in
    subst (λ d. Returns (λ w. w) c.assemble.result d)
    (instance_is c.args.self.now c.args.rules.now c.args.index c.deref.result.now c.names.result.now c.as_slice.result.now c.vector-vector.result text c.names.ensures c.as_slice.ensures c.vector-vector.ensures)
    c.assemble.ensures.outcome
