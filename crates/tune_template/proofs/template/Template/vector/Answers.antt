use Rattle.std.proofs.Common.{◌≡◌, ◌∙◌, sym, ap, arith, length}
use Rattle.tune_template.specs.Vectors.{vectors_of}
use Rattle.tune_template.proofs.VectorSteps.{vectors_len}
use Rattle.tune_template.proofs.template.Template.vector.Goals as goal

pub vector_at-requires-clause-inside : goal.vector_at-requires-clause-inside
vector_at-requires-clause-inside c =
    let n : length (vectors_of c.args.self.now.ranges.spans) ≡ c.self.inside.count = ap (λ t. length (vectors_of t.ranges.spans)) (sym c.self.view_is) ∙ (vectors_len c.self.inside.spans.items ∙ c.self.invariant.1.vectors) in
    omega (arith, c.requires, n)
