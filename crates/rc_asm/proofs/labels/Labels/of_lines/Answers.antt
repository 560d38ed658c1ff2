use Rattle.std.proofs.Common.{arith, ap, length, ◌∙◌, ◌++◌, map}
use Rattle.rc_text.specs.Symbols.{name_of}
use Rattle.rc_expand.specs.Names.{entry_of}
use Rattle.rc_asm.proofs.LabelSteps.{after_most, labels_next}
use Rattle.rc_asm.proofs.labels.Labels.of_lines.Goals as goal

pub loop-line-preserved : goal.loop-line-preserved
loop-line-preserved c =
    let most = after_most c.in-Some.line.now.word c.loop-line.address c.address_after-address.result c.address_after-address.ensures in (
      omega (arith, most, c.loop-line.invariant.0, ap length c.in-Some.ensures.cases.0),
      labels_next c.args.source.now c.loop-line.rest.now c.in-Some.after.now c.in-Some.line.now c.loop-line.labels _ _ c.loop-line.address _ c.in-Some.ensures.cases.0
          (λ r name. c.in_ok-insert_all.ensures r name ∙ ap (λ ts. entry_of (c.loop-line.labels ++ (map (λ t. (name_of c.args.source.now t, c.loop-line.address)) ts ++ r)) name) c.as_slice.ensures) c.address_after-address.ensures c.loop-line.invariant.1,
    )
