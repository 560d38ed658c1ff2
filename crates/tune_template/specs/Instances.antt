-- Templates, and their warriors.
use Rattle.std.specs.Prelude.{ℕ, ℤ, List, [], ◌∷◌, length, Result, Ok, slice_get}
use Rattle.std.specs.Option.{unwrap_or}
use Rattle.rc_instr.specs.Results.{◌>>=◌}
use Rattle.rc_instr.specs.Rules.{RulesView}
use Rattle.rc_instr.specs.Warrior.{WarriorView}
use Rattle.rc_expand.specs.Names.{Table}
use Rattle.rc_asm.specs.Assembly.{outcome_of}
use Rattle.rc_asm.specs.declared.fault.AsmFault.{AsmFault}
use Rattle.tune_template.specs.declared.fault.TemplateFault.{TemplateFault}
use Rattle.tune_template.specs.Ranges.{Ranges, ranges_of}
use Rattle.tune_template.specs.Vectors.{vectors_of}

-- What contracts see of a template: its text and its ranges.
pub record TemplateView : Type 0 where
  pub text : List ℕ
  pub ranges : Ranges

-- The number of its settings.
abbrev pub setting_count : TemplateView → ℕ
setting_count t = length (vectors_of t.ranges.spans)

-- The template in a text, or its first fault.
abbrev pub template_of : List ℕ → Result TemplateView TemplateFault
template_of text = do
  ranges ← ranges_of text
  Ok (record { text = text; ranges = ranges })

-- The constants of an instance: each name with the value at its index.
abbrev pub constants_of : List (List ℕ) → List ℤ → Table
constants_of (n ∷ names) (v ∷ values) = (n, v) ∷ constants_of names values
constants_of _ _ = []

-- The values of setting v, one for each constant. No values if there is no such setting.
abbrev pub values_at : TemplateView → ℕ → List ℤ
values_at t v = unwrap_or (slice_get (vectors_of t.ranges.spans) v) []

-- What the text assembles to with the values of setting v: a warrior, or the first fault.
unfoldable pub instance_of : TemplateView → RulesView → ℕ → Result WarriorView AsmFault
instance_of t rules v = outcome_of t.text (constants_of t.ranges.names (values_at t v)) rules
