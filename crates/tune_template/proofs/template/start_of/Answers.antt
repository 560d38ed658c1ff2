use Rattle.std.proofs.Common.{◌≡◌, ◌<◌, ◌/◌, refl, sym, arith, length}
use Rattle.tune_template.specs.Ranges.{vector_count}
use Rattle.tune_template.specs.Vectors.{vectors_of, start_index}
use Rattle.tune_template.proofs.VectorSteps.{start_next, start_end, start_vector_at, vectors_len}
use Rattle.tune_template.proofs.template.start_of.Goals as goal

pub overflow_add-index : goal.overflow_add-index
overflow_add-index c =
    let next = start_next c.args.spans.now c.loop-span.rest.now c.in-Some.after.now c.in-Some.span.now c.loop-span.index c.loop-span.size (c.loop-span.size / c.in-Some.span.now.count) c.in-Some.ensures.cases.0 c.loop-span.invariant refl in
    let low : start_index c.args.spans.now < vector_count c.args.spans.now = (start_vector_at c.args.spans.now c.requires.values).0 in
    omega (arith, next.0, low, c.requires.count, c.ranges.count.fits)

pub loop-span-preserved : goal.loop-span-preserved
loop-span-preserved c = start_next c.args.spans.now c.loop-span.rest.now c.in-Some.after.now c.in-Some.span.now c.loop-span.index c.loop-span.size _ c.in-Some.ensures.cases.0 c.loop-span.invariant refl

pub returns-clause-start : goal.returns-clause-start
returns-clause-start c =
    let e : start_index c.args.spans.now ≡ c.loop-span.index = start_end c.args.spans.now c.loop-span.rest.now c.loop-span.index c.in_default.ensures.cases c.loop-span.invariant.0 in
    rw e at (start_vector_at c.args.spans.now c.requires.values).1

pub returns-clause-inside : goal.returns-clause-inside
returns-clause-inside c =
    let e : start_index c.args.spans.now ≡ c.loop-span.index = start_end c.args.spans.now c.loop-span.rest.now c.loop-span.index c.in_default.ensures.cases c.loop-span.invariant.0 in
    let low : start_index c.args.spans.now < vector_count c.args.spans.now = (start_vector_at c.args.spans.now c.requires.values).0 in
    let len : length (vectors_of c.args.spans.now) ≡ vector_count c.args.spans.now = vectors_len c.args.spans.now in
    omega (arith, e, low, len)

pub returns-clause-index : goal.returns-clause-index
returns-clause-index c = sym (start_end c.args.spans.now c.loop-span.rest.now c.loop-span.index c.in_default.ensures.cases c.loop-span.invariant.0)
