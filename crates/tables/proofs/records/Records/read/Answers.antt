use Rattle.std.proofs.Common.{ap, ◌∙◌}
use Rattle.std.specs.Prelude.{Ok}
use Rattle.tables.proofs.Reading.{one_taken, none_taken}
use Rattle.tables.proofs.records.Records.read.Goals as goal

pub returns-in-Ok-true-clause-read : goal.returns-in-Ok-true-clause-read
returns-in-Ok-true-clause-read c =
    let read = c.read_byte_record.ensures in
    let is = c.in-Ok-true.is ∙ ap Ok c.in-Ok-true.field-0-test in
    rw (← c.self.view_is) (one_taken c.self.inside.reader c.read_byte_record.new.self _ _ c.self.inside.ended c.if-self.false is c.self.invariant read.reads read.failed)

pub returns-in-Ok-false-clause-read : goal.returns-in-Ok-false-clause-read
returns-in-Ok-false-clause-read c =
    let read = c.read_byte_record.ensures in
    let is = c.in-Ok-false.is ∙ ap Ok c.in-Ok-false.field-0-test in
    (rw (← c.self.view_is) (none_taken c.self.inside.reader c.read_byte_record.new.self _ _ c.self.inside.ended c.if-self.false is c.self.invariant read.reads read.failed), c.end.ensures)
