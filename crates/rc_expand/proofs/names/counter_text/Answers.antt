use Rattle.std.proofs.Common.{arith, ◌∙◌}
use Rattle.rc_expand.proofs.NameSteps.{short_length, short_text, long_text}
use Rattle.rc_expand.proofs.names.counter_text.Goals as goal

pub slice_bounds-result-count : goal.slice_bounds-result-count
slice_bounds-result-count c = short_length c.args.counter c.as_bytes.result.now c.if-counter-lt10.true (c.as_bytes.ensures.value ∙ c.format.ensures.text)

pub slice_bounds-result-start : goal.slice_bounds-result-start
slice_bounds-result-start c = short_length c.args.counter c.as_bytes.result.now c.if-counter-lt10.true (c.as_bytes.ensures.value ∙ c.format.ensures.text)

pub returns-then-counter-lt10 : goal.returns-then-counter-lt10
returns-then-counter-lt10 c = short_text c.args.counter c.as_bytes.result.now c.if-counter-lt10.true (c.as_bytes.ensures.value ∙ c.format.ensures.text)

pub returns : goal.returns
returns c = long_text c.args.counter c.as_bytes-2.result.now c.if-counter-lt10.false (omega arith) (c.as_bytes-2.ensures.value ∙ c.format-2.ensures.text)
