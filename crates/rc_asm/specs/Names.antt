-- The values of names in expressions (labels: 1994 draft; predefined names: pMARS). The address of
-- a line is the number of lines of code before it.
use Rattle.std.specs.Prelude.{◌≡◌, ℕ, ◌+◌, ℤ, pos, ◌-ℤ◌, List, [], ◌∷◌, ◌++◌, map, Option, Some, Result, if◌then◌else◌, option_map}
use Rattle.std.specs.Option.{option_or}
use Rattle.std.specs.Str.{bytes_eq}
use Rattle.rc_text.specs.declared.token.Token.{Token}
use Rattle.rc_text.specs.declared.fault.EvalFault.{EvalFault}
use Rattle.rc_text.specs.Symbols.{name_of, symbols_of}
use Rattle.rc_text.specs.Reading.{evaluation_of}
use Rattle.rc_instr.specs.Rules.{RulesView}
use Rattle.rc_expand.specs.declared.line.LineWord.{LineWord}
use Rattle.rc_expand.specs.declared.line.LineWord.TheVariants.{Code}
use Rattle.rc_expand.specs.declared.line.Line.{Line}
use Rattle.rc_expand.specs.Names.{Table, entry_of, given_names, CURLINE}
use Rattle.rc_asm.specs.declared.scope.LabelsAs.{LabelsAs}
use Rattle.rc_asm.specs.declared.scope.LabelsAs.TheVariants.{Addresses, Distances}

-- Labels with their addresses.
abbrev pub Labels : Type 0
Labels = List (List ℕ × ℕ)

-- The address after a line at `address`.
abbrev pub address_after : LineWord → ℕ → ℕ
address_after Code address = address + 1
address_after _ address = address

-- Each label of the lines with its address; the first line is at `address`.
abbrev pub labels_from : List ℕ → ℕ → List Line → Labels
labels_from source address [] = []
labels_from source address (l ∷ ls) = map (λ t. (name_of source t, address)) l.labels ++ labels_from source (address_after l.word address) ls

abbrev pub labels_of : List ℕ → List Line → Labels
labels_of source lines = labels_from source 0 lines

-- Both lists give every name the same address.
abbrev pub Agree : Labels → Labels → Type 0
Agree a b = (name : List ℕ) → entry_of a name ≡ entry_of b name

-- What gives names their values: the constants, the rules, and the addresses of labels.
pub record NameValues : Type 0 where
  pub constants : Table
  pub rules : RulesView
  pub address : List ℕ → Option ℕ

-- The values of names in a text with these lines.
abbrev pub names_of : List ℕ → Table → RulesView → List Line → NameValues
names_of source constants rules lines = record { constants = constants; rules = rules; address = entry_of (labels_of source lines) }

-- The value of a label with the address `label` in the line at `address`.
abbrev pub label_value : LabelsAs → (address label : ℕ) → ℤ
label_value Addresses address label = pos label
label_value Distances address label = pos label -ℤ pos address

-- The value of a name in the line at `address`: a constant, a predefined name, CURLINE, or a label.
unfoldable pub stands_for : NameValues → (address : ℕ) → LabelsAs → List ℕ → Option ℤ
stands_for names address labels_as name =
    option_or (given_names names.constants names.rules name)
    (if bytes_eq name CURLINE then Some (pos address) else option_map (label_value labels_as address) (names.address name))

-- The value of an expression in the line at `address`, or its first fault.
abbrev pub value_at : List ℕ → NameValues → (address : ℕ) → LabelsAs → List Token → Result ℤ EvalFault
value_at source names address labels_as tokens = evaluation_of (stands_for names address labels_as) (symbols_of source tokens)
