use Rattle.std.proofs.Common.{rules, FitsSigned, w64, ◌∙◌, ap, refl, [], ◌++◌, ◌∷◌}
use Rattle.std.proofs.lemmas.Int.{to_z-of_z}
use Rattle.tune_template.proofs.VectorSteps.{value_next}
use Rattle.tune_template.proofs.template.vector_at.Goals as goal

pub loop-span-preserved : goal.loop-span-preserved
loop-span-preserved c =
    let f : FitsSigned w64 c.value_at.result = search rules in
    value_next c.args.spans.now c.loop-span.rest.now c.in-Some.after.now c.in-Some.span.now c.loop-span.vector _ c.args.index c.loop-span.size c.loop-span.place _ c.in-Some.ensures.cases.0 c.loop-span.invariant refl
    (c.push.ensures ∙ ap (λ x. c.loop-span.vector ++ (x ∷ [])) (to_z-of_z w64 c.value_at.result f ∙ c.value_at.ensures))
