use Rattle.std.proofs.Common.{sym, ◌∙◌}
use Rattle.std.specs.Prelude.{flat_map}
use Rattle.rc_text.specs.Symbols.{counter_text}
use Rattle.rc_expand.proofs.NameSteps.{peeled, counter_peeled, counter_differs}
use Rattle.rc_expand.proofs.names.is_joined_name.Goals as goal

pub loop-counter-init : goal.loop-counter-init
loop-counter-init c = peeled c.args.bytes.now (flat_map counter_text c.args.counters.now) c.args.name.now c.in-Some.after.now c.in-Some.ensures

pub returns-in-None-after_counter : goal.returns-in-None-after_counter
returns-in-None-after_counter c =
    sym (c.loop-counter.invariant ∙ counter_differs c.args.counters.now c.loop-counter.rest.now c.loop-counter.counter-index c.loop-counter-test.true c.in-None-after_counter.ensures)

pub loop-counter-preserved : goal.loop-counter-preserved
loop-counter-preserved c =
    c.loop-counter.invariant
    ∙ counter_peeled c.args.counters.now c.loop-counter.rest.now c.in-Some-after_counter.after.now c.loop-counter.counter-index c.loop-counter-test.true c.in-Some-after_counter.ensures
