use Rattle.std.proofs.Common.{arith}
use Rattle.tune_cert.proofs.Written.{row_written, all_written}
use Rattle.tune_cert.proofs.write.write_rows.Goals as goal

pub loop-row-preserved : goal.loop-row-preserved
loop-row-preserved c = record {
  ready = c.in_ok-write_row.ensures.ready;
  number = omega arith;
  text = row_written c.args.rows.now c.loop-row.row-index c.loop-row.vector c.row-item.result _ _ _ (omega arith) c.row-item.is c.in_ok-write_row.ensures.added c.loop-row.invariant.text;
}

pub returns : goal.returns
returns c = record {
  ready = c.loop-row.invariant.ready;
  added = all_written c.args.rows.now c.loop-row.row-index c.loop-row.vector _ _ (omega arith) c.loop-row.invariant.text;
}
