-- Which statement bytes spell. Their records are those that the crate `csv` reads.
use Rattle.std.specs.Prelude.{◌≡◌, ◌⊎◌, ℕ, zero, suc, ◌+◌, ◌<◌, ◌≤◌, ◌^◌, ◌==◌, nat_lt, ◌&&◌, if◌then◌else◌, Bool, false, List, [], ◌∷◌, length, drop, slice_get, Option, Some, None, Result, Ok, Err, All, codes}
use Rattle.std.specs.Fmt.{decimal}
use Rattle.std.specs.List.{slice_split}
use Rattle.std.specs.Option.{ok_or, option_or, option_map, option_zip, option_and_then}
use Rattle.std.specs.Str.{byte, bytes_eq}
use Rattle.mars_fight.specs.Play.{ArePoints}
use Rattle.rc_instr.specs.Digits.{read_on}
use Rattle.rc_instr.specs.Results.{◌>>=◌, Returns as ReturnsBut}
use Rattle.tables.specs.Records.{Fields}
use Rattle.tune_cert.specs.CertText.{row_fields, count_fields, best_fields, stated, cert_fields}
use Rattle.tune_problem.specs.declared.cert.Cert.{Cert}
use Rattle.tune_problem.specs.declared.cert.Row.{Row}
use Rattle.tune_problem.specs.declared.cert.Row.TheVariants.{Refused, Same, Cap}
use Rattle.tune_problem.specs.declared.statement.Answer.{Answer}
use Rattle.tune_problem.specs.declared.statement.Answer.TheVariants.{Best as TheBest, NoneFrom}
use Rattle.tune_problem.specs.declared.statement.Statement.{Statement}
use Rattle.tune_cert.specs.declared.fault.ReadFault.{ReadFault}
use Rattle.tune_cert.specs.declared.fault.ReadFault.TheVariants.{OutOfMemory}

-- ---- what records spell, read from first to last

-- The number whose decimal these bytes are: at most 4294967295, without a leading zero.
unfoldable pub decimal_of : List ℕ → Option ℕ
decimal_of bytes =
    let n = read_on 0 bytes in
    if nat_lt n (2 ^ 32) && bytes_eq bytes (decimal n) then Some n else None

-- A version: 1 or 2.
abbrev pub version_of : List ℕ → Option ℕ
version_of bytes =
    if bytes_eq bytes (codes "1") then Some 1
    else if bytes_eq bytes (codes "2") then Some 2
    else None

-- The points of a fight: 0, 1 or 3.
abbrev pub points_of : List ℕ → Option ℕ
points_of bytes =
    if bytes_eq bytes (codes "0") then Some 0
    else if bytes_eq bytes (codes "1") then Some 1
    else if bytes_eq bytes (codes "3") then Some 3
    else None

-- A fight with its points: what is before the colon, and what is after it.
abbrev pub item_by : List (List ℕ) → Option (ℕ × ℕ)
item_by (fight ∷ points ∷ []) = option_zip (decimal_of fight) (points_of points)
item_by _ = None

-- A fight with its points: `7:3`.
abbrev pub item_of : List ℕ → Option (ℕ × ℕ)
item_of text = item_by (slice_split (λ b. b == byte ":") text)

-- Every one of these texts is a fight with its points.
abbrev pub items_of : List (List ℕ) → Option (List (ℕ × ℕ))
items_of [] = Some []
items_of (text ∷ texts) = option_map (λ x. x.0 ∷ x.1) (option_zip (item_of text) (items_of texts))

-- The list of a cap row: `0:3 1:1`, or `-` if it lists none.
unfoldable pub listing_of : List ℕ → Option (List (ℕ × ℕ))
listing_of text = if bytes_eq text (codes "-") then Some [] else items_of (slice_split (λ b. b == byte " ") text)

-- `cwcert,V,N`: the version and the number of settings.
abbrev pub count_of : Fields → Option (ℕ × ℕ)
count_of (name ∷ version ∷ count ∷ []) =
    if bytes_eq name (codes "cwcert") then option_zip (version_of version) (decimal_of count)
    else None
count_of _ = None

-- `best,W,T`: the best setting and its total.
abbrev pub best_of : Fields → Option Answer
best_of (name ∷ best ∷ total ∷ []) =
    if bytes_eq name (codes "best") then option_map (λ x. TheBest (record { vector = x.0; total = x.1 })) (option_zip (decimal_of best) (decimal_of total))
    else None
best_of _ = None

-- `none,-,F`: no setting totals F or more.
abbrev pub none_of : Fields → Option Answer
none_of (name ∷ dash ∷ floor ∷ []) =
    if bytes_eq name (codes "none") && bytes_eq dash (codes "-") then option_map (λ f. NoneFrom f) (decimal_of floor)
    else None
none_of _ = None

-- Either answer; without `floors`, only a best setting.
abbrev pub answer_of : (floors : Bool) → Fields → Option Answer
answer_of floors fields = option_or (best_of fields) (if floors then none_of fields else None)

-- A row by its first and its last field: `refused` and `-`, `same` and U, or `cap` and LIST.
abbrev pub row_by : (kind last : List ℕ) → Option Row
row_by kind last =
    if bytes_eq kind (codes "refused") then (if bytes_eq last (codes "-") then Some Refused else None)
    else if bytes_eq kind (codes "same") then option_map (λ u. Same u) (decimal_of last)
    else if bytes_eq kind (codes "cap") then option_map (λ fights. Cap fights) (listing_of last)
    else None

-- The row of setting v: the field between these names it.
abbrev pub row_of : (v : ℕ) → Fields → Option Row
row_of v (kind ∷ setting ∷ last ∷ []) =
    option_and_then (λ u. if u == v then row_by kind last else None) (decimal_of setting)
row_of v _ = None

-- The record of setting v's row: record 0 is the count, and record 1 the answer.
abbrev pub record_of : ℕ → ℕ
record_of v = v + 2

-- Reads the first of these records, record `index`, by a form. The record is malformed if it is
-- missing or does not have this form.
abbrev pub first_as : {A : Type 0} → (form : Fields → Option A) → (index : ℕ) → List Fields → Result A ℕ
first_as form index [] = Err index
first_as form index (fields ∷ records) = ok_or (form fields) index

-- The rows of the settings from v on, or the first malformed record.
unfoldable pub rows_from : (v : ℕ) → List Fields → Result (List Row) ℕ
rows_from v [] = Ok []
rows_from v (fields ∷ records) = do
  row ← ok_or (row_of v fields) (record_of v)
  rows ← rows_from (v + 1) records
  Ok (row ∷ rows)

-- The statement that records spell, or the index of the first malformed record. `none,-,F` is
-- malformed unless `floors` are read. There may be more or fewer rows than the statement claims.
unfoldable pub statement_of : (floors : Bool) → List Fields → Result Statement ℕ
statement_of floors records = do
  first ← first_as count_of 0 records
  answer ← first_as (answer_of floors) 1 (drop 1 records)
  rows ← rows_from 0 (drop 2 records)
  Ok (record { version = first.0; count = first.1; answer = answer; rows = rows })

-- A statement with this answer as a certificate, if the answer is a best setting. If not, record 1
-- is malformed, which has the answer.
abbrev pub cert_by : Statement → Answer → Result Cert ℕ
cert_by s (TheBest best) = Ok (record { version = s.version; count = s.count; best = best.vector; total = best.total; rows = s.rows })
cert_by s (NoneFrom floor) = Err 1

-- The certificate that records spell, or the index of the first malformed record.
unfoldable pub cert_of_records : List Fields → Result Cert ℕ
cert_of_records records = statement_of false records >>= λ s. cert_by s s.answer

-- ---- what is spelled, and what is malformed

-- A decimal of a certificate is at most 4294967295.
abbrev pub FitsU32 : ℕ → Type 0
FitsU32 n = n < 2 ^ 32

-- The version of a certificate is 1 or 2.
abbrev pub IsVersion : ℕ → Type 0
IsVersion n = (n ≡ 1) ⊎ (n ≡ 2)

-- A listed fight has 0, 1 or 3 points.
abbrev pub IsItem : ℕ × ℕ → Type 0
IsItem item = FitsU32 item.0 × ArePoints item.1

abbrev pub IsRow : Row → Type 0
IsRow Refused = Unit {0}
IsRow (Same u) = FitsU32 u
IsRow (Cap fights) = All IsItem fights

-- The numbers of an answer fit.
abbrev pub IsAnswer : Answer → Type 0
IsAnswer (TheBest best) = FitsU32 best.vector × FitsU32 best.total
IsAnswer (NoneFrom floor) = FitsU32 floor

-- A statement that can be written down.
pub record IsStatement (s : Statement) : Type 0 where
  pub version : IsVersion s.version
  pub count : FitsU32 s.count
  pub answer : IsAnswer s.answer
  pub rows : All IsRow s.rows
  pub few : length s.rows ≤ 2 ^ 32

-- A certificate can be written down if it can be as a statement.
abbrev pub IsCert : Cert → Type 0
IsCert c = IsStatement (stated c)

-- Records spell a certificate if they are its records. It need not have as many rows as it claims.
pub record Spells (records : List Fields) (c : Cert) : Type 0 where
  pub cert : IsCert c
  pub text : records ≡ cert_fields c

-- The form of each record of a certificate that names a best setting.
abbrev pub HasForm : (index : ℕ) → Fields → Type 0
HasForm zero fields = (version : ℕ) × (count : ℕ) × IsVersion version × FitsU32 count × (fields ≡ count_fields version count)
HasForm (suc zero) fields = (best : ℕ) × (total : ℕ) × FitsU32 best × FitsU32 total × (fields ≡ best_fields best total)
HasForm (suc (suc v)) fields = (row : Row) × FitsU32 v × IsRow row × (fields ≡ row_fields v row)

-- A record of such a certificate is malformed if it has another form, or if it is missing and is
-- one of the first two.
abbrev pub IsMalformed : (records : List Fields) → (index : ℕ) → Type 0
IsMalformed records index =
    ((index < 2) × (length records ≤ index)) ⊎ ((fields : Fields) × (slice_get records index ≡ Some fields) × ¬ (HasForm index fields))

-- The first malformed record.
pub record IsFirstMalformed (records : List Fields) (index : ℕ) : Type 0 where
  pub malformed : IsMalformed records index
  pub first : (k : ℕ) → k < index → ¬ (IsMalformed records k)

-- The one fault that no definition gives, since it says nothing of the bytes.
abbrev pub IsOutOfMemory : ReadFault → Type 0
IsOutOfMemory fault = fault ≡ OutOfMemory

-- A call returns what the definition gives, seen through `view`, unless memory runs out.
abbrev pub Returns : {A B : Type 0} → (view : A → B) → (result : Result A ReadFault) → (definition : Result B ReadFault) → Type 0
Returns view result definition = ReturnsBut IsOutOfMemory view result definition
