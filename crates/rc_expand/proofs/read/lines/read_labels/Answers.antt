use Rattle.std.proofs.Common.{sym, ap}
use Rattle.rc_expand.proofs.Reading.LabelSteps.{label_more, labels_done}
use Rattle.rc_expand.proofs.read.lines.read_labels.Goals as goal

pub line-preserved : goal.line-preserved
line-preserved c =
    let source = c.args.source.now in
    let tokens = c.args.tokens.now in (
      rw c.in_ok-push.ensures (label_more source tokens c.line.labels c.line.at c.label_end-end.result c.in_ok-label.label c.line-test.ensures.result c.label_end-end.ensures.end c.in_ok-label.ensures c.line.invariant.0),
      c.label_end-end.ensures.high,
    )

pub returns-clause-labels : goal.returns-clause-labels
returns-clause-labels c = sym (ap (λ l. l.labels) (labels_done c.args.source.now c.args.tokens.now c.line.labels c.line.at c.line-test.ensures.result c.line.invariant.0))

pub returns-clause-rest : goal.returns-clause-rest
returns-clause-rest c = sym (ap (λ l. l.after) (labels_done c.args.source.now c.args.tokens.now c.line.labels c.line.at c.line-test.ensures.result c.line.invariant.0))
