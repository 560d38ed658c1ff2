use Rattle.std.proofs.Common.{◌≡◌, ℕ, List, ◌++◌, drop}
use Rattle.std.specs.declared.alloc.Global.{Global}
use Rattle.std.specs.declared.vec.Vec.{Vec}
use Rattle.csv.specs.Writing.{writer_under, writer_pending}
use Rattle.csv.specs.declared.writer.Writer.{Writer}
use Rattle.tune_cert.specs.CertText.{rows_fields, records_text}
use Rattle.tune_cert.specs.Steps.{IsReady}
use Rattle.tune_cert.proofs.write.write_rows.Given as goal

-- the text so far: what the inner writer holds, and what is still to be handed to it
abbrev pub so_far : Writer (Vec ℕ Global) → List ℕ
so_far writer = (writer_under writer).items ++ writer_pending writer

-- what is written and the rows that are left make the whole
abbrev pub invariant-loop-row : goal.invariant-loop-row
invariant-loop-row l = record {
  ready : IsReady l.writer;
  number : l.vector ≡ l.row-index;
  text : so_far l.writer ++ records_text (rows_fields (drop l.row-index l.rows) l.vector) ≡ so_far l.fn.writer ++ records_text (rows_fields l.rows 0);
}
