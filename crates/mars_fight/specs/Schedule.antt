-- The fights of a schedule, or its first fault: by record, and in a record from the left.
use Rattle.std.specs.Prelude.{ℕ, ◌+◌, ◌==◌, nat_lt, nat_le, ◌&&◌, if◌then◌else◌, Bool, Option, Some, None, Result, Ok, Err, List, [], ◌∷◌, length, drop, codes, bytes_eq}
use Rattle.std.specs.Str.{byte}
use Rattle.std.specs.Option.{ok_or}
use Rattle.rc_instr.specs.Results.{with_fault, ◌>>=◌, check}
use Rattle.rc_instr.specs.Rules.{RulesView}
use Rattle.mars_core.specs.declared.side.Side.{Side}
use Rattle.mars_core.specs.declared.side.Side.TheVariants.{Candidate, Opponent}
use Rattle.tables.specs.Records.{Fields, records_of}
use Rattle.rc_instr.specs.Decimal.{padded_decimal}
use Rattle.mars_fight.specs.Limits.{MOST_FIGHTS, MOST_WEIGHT}
use Rattle.mars_fight.specs.declared.fight.Fight.{Fight}
use Rattle.mars_fight.specs.declared.record.Columns.{Columns}
use Rattle.mars_fight.specs.declared.record.Columns.TheVariants.{Unweighted, Weighted}
use Rattle.mars_fight.specs.declared.fault.ScheduleFaultKind.{ScheduleFaultKind}
use Rattle.mars_fight.specs.declared.fault.ScheduleFaultKind.TheVariants.{Header, FieldCount, BadNumber, NoSuchOpponent, BadPosition, BadFirst, Empty, TooMany, BadWeight}
use Rattle.mars_fight.specs.declared.fault.ScheduleFault.{ScheduleFault}
use Rattle.mars_fight.specs.Faults.{at_row}

-- The first three fields have the names of a header.
abbrev pub begins_header : List ℕ → List ℕ → List ℕ → Bool
begins_header a b c = bytes_eq a (codes "opponent") && bytes_eq b (codes "position") && bytes_eq c (codes "first")

-- What a header says of the fields: three, or four with a weight. None if it is not a header.
abbrev pub columns_of : Fields → Option Columns
columns_of (a ∷ b ∷ c ∷ []) = if begins_header a b c then Some Unweighted else None
columns_of (a ∷ b ∷ c ∷ d ∷ []) = if begins_header a b c && bytes_eq d (codes "weight") then Some Weighted else None
columns_of _ = None

-- The columns that the first record names: it must be a header.
abbrev pub header_of : List Fields → Result Columns ScheduleFault
header_of [] = Err (at_row 0 Header)
header_of (first ∷ records) = ok_or (columns_of first) (at_row 0 Header)

-- The index of one of `opponents` opponents.
abbrev pub opponent_of : ℕ → Option ℕ → Result ℕ ScheduleFaultKind
opponent_of opponents None = Err BadNumber
opponent_of opponents (Some number) = if nat_lt number opponents then Ok number else Err NoSuchOpponent

-- A position at least the distance away from 0, both ways round the core.
abbrev pub position_of : RulesView → Option ℕ → Result ℕ ScheduleFaultKind
position_of rules None = Err BadNumber
position_of rules (Some number) =
    if nat_le rules.distance number && nat_le (number + rules.distance) rules.core then Ok number else Err BadPosition

-- Who moves first: c for the candidate, o for the opponent.
abbrev pub mover_named : List ℕ → Result Side ScheduleFaultKind
mover_named (x ∷ []) = if x == byte "c" then Ok Candidate else if x == byte "o" then Ok Opponent else Err BadFirst
mover_named _ = Err BadFirst

-- A weight from 1 to `MOST_WEIGHT`.
abbrev pub weight_of : Option ℕ → Result ℕ ScheduleFaultKind
weight_of None = Err BadNumber
weight_of (Some number) = if nat_le 1 number && nat_le number MOST_WEIGHT then Ok number else Err BadWeight

-- The fight of three fields and of what `last` says of the weight, or the fault of the leftmost
-- faulty field.
abbrev pub fight_made : RulesView → ℕ → (a b c : List ℕ) → (last : Result ℕ ScheduleFaultKind) → Result Fight ScheduleFaultKind
fight_made rules opponents a b c last = do
  opponent ← opponent_of opponents (padded_decimal a)
  position ← position_of rules (padded_decimal b)
  first ← mover_named c
  weight ← last
  Ok (record { opponent = opponent; position = position; first = first; weight = weight })

-- The fight of a record without a weight, which has three fields: it counts once.
abbrev pub unweighted_fight : RulesView → ℕ → Fields → Result Fight ScheduleFaultKind
unweighted_fight rules opponents (a ∷ b ∷ c ∷ []) = fight_made rules opponents a b c (Ok 1)
unweighted_fight rules opponents _ = Err FieldCount

-- The fight of a record with a weight, which has four fields.
abbrev pub weighted_fight : RulesView → ℕ → Fields → Result Fight ScheduleFaultKind
weighted_fight rules opponents (a ∷ b ∷ c ∷ d ∷ []) = fight_made rules opponents a b c (weight_of (padded_decimal d))
weighted_fight rules opponents _ = Err FieldCount

-- The fight of a record with the fields that the header names, or what is wrong with it.
unfoldable pub fight_of : RulesView → ℕ → Columns → Fields → Result Fight ScheduleFaultKind
fight_of rules opponents Unweighted fields = unweighted_fight rules opponents fields
fight_of rules opponents Weighted fields = weighted_fight rules opponents fields

-- The fights of records of which the first is record `row`, in order, or the first fault. Record 1
-- comes after the header.
abbrev pub fights_from : RulesView → ℕ → Columns → (row : ℕ) → List Fields → Result (List Fight) ScheduleFault
fights_from rules opponents columns row [] = Ok []
fights_from rules opponents columns row (fields ∷ records) = do
  _ ← check (nat_le row MOST_FIGHTS) (at_row row TooMany)
  fight ← with_fault (at_row row) (fight_of rules opponents columns fields)
  fights ← fights_from rules opponents columns (row + 1) records
  Ok (fight ∷ fights)

-- The fights of records that begin with the header: at least one.
abbrev pub scheduled : RulesView → ℕ → List Fields → Result (List Fight) ScheduleFault
scheduled rules opponents records = do
  columns ← header_of records
  fights ← fights_from rules opponents columns 1 (drop 1 records)
  _ ← check (nat_lt 0 (length fights)) (at_row 0 Empty)
  Ok fights

-- The fights of a schedule for `opponents` opponents under these rules, in the order of the text,
-- or its first fault. A fight that is listed twice counts twice.
unfoldable pub schedule_of : RulesView → ℕ → List ℕ → Result (List Fight) ScheduleFault
schedule_of rules opponents bytes = scheduled rules opponents (records_of bytes)
