use Rattle.std.proofs.Common.{◌∙◌, refl}
use Rattle.rc_text.specs.Symbols.{name_of}
use Rattle.rc_asm.proofs.LabelSteps.{label_inserted}
use Rattle.rc_asm.proofs.labels.Labels.insert_all.Goals as goal

pub loop-token-preserved : goal.loop-token-preserved
loop-token-preserved c = λ r name.
    label_inserted (λ a. a.number) c.args.source.now c.args.address c.loop-token.self-inside.table c.add.new.self c.loop-token.rest.now c.in-Some.after.now c.in-Some.token.now (name_of c.args.source.now c.in-Some.token.now) _ c.in-Some.ensures.cases.0 refl refl c.in_ok-add.ensures.table r name
    ∙ c.loop-token.invariant r name
