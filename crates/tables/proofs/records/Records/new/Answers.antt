use Rattle.std.proofs.Common.{refl}
use Rattle.tables.specs.Records.{records_of, records_left}
use Rattle.tables.proofs.records.Records.new.Goals as goal

pub returns : goal.returns
unfolding records_of records_left
returns c =
    let made = c.from_reader-reader.ensures in
    rw (made.state, made.source) refl
