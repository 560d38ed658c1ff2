-- Names that are given from outside of a text, and their values.
use Rattle.std.specs.Prelude.{ℕ, Bool, ◌||◌, List, [], ◌∷◌, Option, Some, None, if◌then◌else◌, is_some, codes, ℤ, pos}
use Rattle.std.specs.Global.{Vec}
use Rattle.std.specs.List.{list_any}
use Rattle.std.specs.Option.{option_or}
use Rattle.std.specs.Str.{bytes_eq}
use Rattle.rc_instr.specs.Rules.{RulesView}
use Rattle.rc_expand.specs.declared.constants.Constants.{Constants}

abbrev pub is_among : List (List ℕ) → List ℕ → Bool
is_among names name = list_any (λ n. bytes_eq n name) names

-- Names with values.
abbrev pub Table : Type 0
Table = List (List ℕ × ℤ)

-- Pairs each name with its value.
abbrev pub table_of : List (Vec ℕ) → List ℤ → Table
table_of (n ∷ names) (v ∷ values) = (n.items, v) ∷ table_of names values
table_of _ _ = []

-- The constants, by name.
abbrev pub table_in : Constants → Table
table_in c = table_of c.names.now c.values.now

-- The names given from outside of a text: the constants, and the predefined names of these rules.
pub record GivenNamesView : Type 0 where
  pub constants : Table
  pub rules : RulesView

-- The predefined names of pMARS but for CURLINE, which has no value before lines are counted. That
-- WARRIORS is 2 and VERSION is 92 is fixed here.
abbrev pub predefined : RulesView → Table
predefined r =
    (codes "CORESIZE", pos r.core)
    ∷ (codes "MAXPROCESSES", pos r.tasks)
    ∷ (codes "MAXCYCLES", pos r.cycles)
    ∷ (codes "MAXLENGTH", pos r.length)
    ∷ (codes "MINDISTANCE", pos r.distance)
    ∷ (codes "WARRIORS", pos 2)
    ∷ (codes "VERSION", pos 92)
    ∷ []

abbrev pub CURLINE : List ℕ
CURLINE = codes "CURLINE"

-- The value of the first entry with this name.
abbrev pub entry_of : {A : Type 0} → List (List ℕ × A) → List ℕ → Option A
entry_of [] name = None
entry_of (e ∷ table) name = if bytes_eq name e.0 then Some e.1 else entry_of table name

-- The value of a name that is given: of a constant, or else of a predefined name.
unfoldable pub given_names : Table → RulesView → List ℕ → Option ℤ
given_names constants rules name = option_or (entry_of constants name) (entry_of (predefined rules) name)

-- A constant or a predefined name, CURLINE included.
unfoldable pub is_taken : GivenNamesView → List ℕ → Bool
is_taken given name = is_some (given_names given.constants given.rules name) || bytes_eq name CURLINE
