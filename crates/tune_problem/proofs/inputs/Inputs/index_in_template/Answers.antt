use Rattle.std.proofs.Common.{◌≡◌, length, ap, arith}
use Rattle.tune_template.specs.Vectors.{vectors_of}
use Rattle.tune_problem.proofs.PartSteps.{setting_inside}
use Rattle.tune_problem.proofs.inputs.Inputs.index_in_template.Goals as goal

pub overflow_add-result : goal.overflow_add-result
overflow_add-result c =
    let first = c.first.ensures.first in
    let inside = setting_inside c.args.self.now c.first.ensures.inputs c.args.index c.requires in
    let count = c.count.ensures.count in
    let few = c.count.ensures.few in
    let view : length (vectors_of c.self.inside.template.ranges.spans) ≡ length (vectors_of c.args.self.now.template.ranges.spans) =
    ap (λ i. length (vectors_of i.template.ranges.spans)) c.self.view_is in
    omega (arith, first, inside, count, few, view)

pub returns-clause-inside : goal.returns-clause-inside
returns-clause-inside c =
    let first = c.first.ensures.first in
    let inside = setting_inside c.args.self.now c.first.ensures.inputs c.args.index c.requires in
    omega (arith, first, inside)
