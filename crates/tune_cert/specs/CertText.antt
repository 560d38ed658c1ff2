-- The text of a certificate, with either answer: records of three fields, as the crate `csv` writes
-- them by default.
use Rattle.std.specs.Prelude.{ℕ, ◌+◌, List, [], ◌∷◌, ◌++◌, codes, flat_map, length}
use Rattle.std.specs.Fmt.{decimal}
use Rattle.std.specs.Str.{byte}
use Rattle.csv.specs.Writing.{default_writer, row_text}
use Rattle.tables.specs.Records.{Fields}
use Rattle.tune_problem.specs.Valid.{named_best}
use Rattle.tune_problem.specs.declared.cert.Cert.{Cert}
use Rattle.tune_problem.specs.declared.cert.Row.{Row}
use Rattle.tune_problem.specs.declared.cert.Row.TheVariants.{Refused, Same, Cap}
use Rattle.tune_problem.specs.declared.statement.Answer.{Answer}
use Rattle.tune_problem.specs.declared.statement.Answer.TheVariants.{Best as TheBest, NoneFrom}
use Rattle.tune_problem.specs.declared.statement.Statement.{Statement}

-- A fight with its points: `7:3`.
unfoldable pub item_text : ℕ × ℕ → List ℕ
item_text item = decimal item.0 ++ byte ":" ∷ decimal item.1

-- A space, then a fight with its points.
unfoldable pub spaced_text : ℕ × ℕ → List ℕ
spaced_text item = byte " " ∷ item_text item

-- The list of a cap row: `0:3 1:1`, or `-` if it lists none.
unfoldable pub list_text : List (ℕ × ℕ) → List ℕ
list_text [] = codes "-"
list_text (item ∷ items) = item_text item ++ flat_map spaced_text items

-- The first field of a row.
abbrev pub kind_text : Row → List ℕ
kind_text Refused = codes "refused"
kind_text (Same u) = codes "same"
kind_text (Cap fights) = codes "cap"

-- The last field of a row.
abbrev pub last_text : Row → List ℕ
last_text Refused = codes "-"
last_text (Same u) = decimal u
last_text (Cap fights) = list_text fights

-- The row of setting v: `refused,v,-`, `same,v,u`, or `cap,v,LIST`.
abbrev pub row_fields : (v : ℕ) → Row → Fields
row_fields v row = kind_text row ∷ decimal v ∷ last_text row ∷ []

-- The rows of the settings from v on.
unfoldable pub rows_fields : List Row → (v : ℕ) → List Fields
rows_fields [] v = []
rows_fields (row ∷ rows) v = row_fields v row ∷ rows_fields rows (v + 1)

-- `cwcert,V,N` for version V and N settings.
abbrev pub count_fields : (version count : ℕ) → Fields
count_fields version count = codes "cwcert" ∷ decimal version ∷ decimal count ∷ []

-- `best,W,T` for the best setting and its total.
abbrev pub best_fields : (best total : ℕ) → Fields
best_fields best total = codes "best" ∷ decimal best ∷ decimal total ∷ []

-- `none,-,F`: no setting totals F or more.
abbrev pub none_fields : (floor : ℕ) → Fields
none_fields floor = codes "none" ∷ codes "-" ∷ decimal floor ∷ []

abbrev pub answer_fields : Answer → Fields
answer_fields (TheBest best) = best_fields best.vector best.total
answer_fields (NoneFrom floor) = none_fields floor

-- A statement has a record for the count, one for the answer, and one for each setting.
unfoldable pub statement_fields : Statement → List Fields
statement_fields s = count_fields s.version s.count ∷ answer_fields s.answer ∷ rows_fields s.rows 0

-- The records as the crate `csv` writes them, one after the other.
unfoldable pub records_text : List Fields → List ℕ
records_text [] = []
records_text (fields ∷ records) = row_text default_writer fields ++ records_text records

unfoldable pub statement_text : Statement → List ℕ
statement_text s = records_text (statement_fields s)

-- The statement that has this answer and these rows, and claims as many settings as rows.
abbrev pub statement_with : (version : ℕ) → Answer → List Row → Statement
statement_with version answer rows = record { version = version; count = length rows; answer = answer; rows = rows }

-- A certificate as a statement.
abbrev pub stated : Cert → Statement
stated c = record { version = c.version; count = c.count; answer = TheBest (named_best c); rows = c.rows }

abbrev pub cert_fields : Cert → List Fields
cert_fields c = statement_fields (stated c)

abbrev pub cert_text : Cert → List ℕ
cert_text c = statement_text (stated c)
