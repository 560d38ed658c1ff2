-- The records of a text of comma-separated values, as the crate `csv` reads them: separated by
-- commas and by LF, CR or CR LF, with double quotes.
use Rattle.std.specs.Prelude.{◌≡◌, ◌+◌, ℕ, List, [], length, Option, Some, None, true, false}
use Rattle.csv.specs.Reading.{Ready, default_config, has_failed, is_flexible, reader_config, reader_trim, records, records_from, strip_bom}
use Rattle.csv.specs.declared.parser.State.{State}
use Rattle.csv.specs.declared.reader.Reader.{Reader}
use Rattle.csv.specs.declared.reader.Trim.TheVariants as trim

-- The fields of a record, each a list of bytes.
abbrev pub Fields : Type 0
Fields = List (List ℕ)

-- The records of a text, without a byte order mark at its front.
unfoldable pub records_of : List ℕ → List Fields
records_of text = records default_config (strip_bom text)

-- The records that a reader has left. After a failure the rest is not known: none. A record takes a
-- byte or more, so one step more than there are bytes is enough.
unfoldable pub records_left : State → Option (List ℕ) → List Fields
records_left s None = []
records_left s (Some text) = records_from default_config (length text + 1) s text

-- The reader takes all records whole: it has no header row, trims nothing, and a record may have
-- any number of fields.
pub record TakesAll {R : Type 0} (reader : Reader R) : Type 0 where
  pub config : reader_config reader ≡ default_config
  pub trim : reader_trim reader ≡ trim.None
  pub flexible : is_flexible reader ≡ true
  pub ready : Ready reader

-- A reader that has not failed takes all records whole.
abbrev pub TakesAllOrFailed : {R : Type 0} → Reader R → Type 0
TakesAllOrFailed reader = has_failed reader ≡ false → TakesAll reader
