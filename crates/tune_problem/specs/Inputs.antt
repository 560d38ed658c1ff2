-- What a tuning starts from.
use Rattle.std.specs.Prelude.{◌≤◌, ◌+◌, ◌-◌, ◌&&◌, nat_le, nat_lt, ℕ, ℤ, List, length, Option, option_and_then, slice_get, All, if◌then◌else◌}
use Rattle.rc_instr.specs.Rules.{RulesView}
use Rattle.rc_instr.specs.Warrior.{WarriorView, Fits}
use Rattle.rc_asm.specs.Assembly.{text_warrior}
use Rattle.mars_fight.specs.declared.fight.Fight.{Fight}
use Rattle.mars_fight.specs.Listed.{IsFight}
use Rattle.tune_template.specs.Vectors.{vectors_of, start_index}
use Rattle.tune_template.specs.Instances.{TemplateView, constants_of, setting_count}
use Rattle.tune_problem.specs.Limits.{MOST_OPPONENTS}
use Rattle.tune_problem.specs.Parts.{IsPart, part_first, part_of}
use Rattle.tune_problem.specs.declared.part.Part.{Part}

-- What contracts see of the inputs of a tuning.
pub record InputsView : Type 0 where
  pub template : TemplateView
  pub opponents : List WarriorView
  pub schedule : List Fight
  pub rules : RulesView
  -- Which of the template's settings are searched.
  pub part : Part

-- The same inputs with another part.
abbrev pub with_part : InputsView → Part → InputsView
with_part i part = record i { part = part }

-- At most `MOST_OPPONENTS` opponents, which fit the rules, a schedule of fights against them, and a
-- part of the template's settings.
pub record AreInputs (i : InputsView) : Type 0 where
  pub few : length i.opponents ≤ MOST_OPPONENTS
  pub fit : All (Fits i.rules) i.opponents
  pub fights : All (IsFight i.rules (length i.opponents)) i.schedule
  pub part : IsPart i.part (setting_count i.template)

-- The settings that are searched: the part's, in order. A setting's index counts from 0
-- among these.
unfoldable pub settings_of : InputsView → List (List ℤ)
settings_of i = part_of i.part (vectors_of i.template.ranges.spans)

-- v - first if v is one of the `count` numbers from `first` on, else 0.
abbrev pub index_among : (first count v : ℕ) → ℕ
index_among first count v = if nat_le first v && nat_lt v (first + count) then v - first else 0

-- The index of the start setting: of START if the part has it, else 0, the part's first.
unfoldable pub part_start : InputsView → ℕ
part_start i =
    index_among (part_first i.part (setting_count i.template)) (length (settings_of i)) (start_index i.template.ranges.spans)

-- The warrior of the setting at index v of the part, if the text assembles with its values.
unfoldable pub warrior_of : InputsView → ℕ → Option WarriorView
warrior_of i v = option_and_then (λ x. text_warrior i.template.text (constants_of i.template.ranges.names x) i.rules) (slice_get (settings_of i) v)
