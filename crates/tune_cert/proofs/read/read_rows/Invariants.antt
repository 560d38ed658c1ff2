use Rattle.std.proofs.Common.{◌≡◌, ◌≤◌, ◌^◌, length}
use Rattle.tune_cert.specs.Spelling.{rows_from}
use Rattle.tune_cert.proofs.RowsRead.{with_read}
use Rattle.tune_cert.proofs.read.read_rows.Given as goal

-- the records that are left give the rest of the rows
abbrev pub invariant-loop-rows : goal.invariant-loop-rows
invariant-loop-rows l = record {
  so_far : rows_from 0 l.fn.records ≡ with_read l.rows.items (rows_from l.vector l.records);
  few : l.vector ≤ 2 ^ 32;
}

abbrev pub decreases-loop-rows : goal.decreases-loop-rows
decreases-loop-rows l = length l.records
