-- What the run of one setting of a template writes, or why it refuses.
use Rattle.std.specs.Prelude.{ℕ, nat_lt, if◌then◌else◌, List, Result, Ok, Err}
use Rattle.rc_instr.specs.Results.{with_fault, ◌>>=◌}
use Rattle.rc_instr.specs.Rules.{RulesView}
use Rattle.rc_instr.specs.Warrior.{WarriorView}
use Rattle.rc_instr.specs.LoadText.{load_text}
use Rattle.tune_template.specs.declared.span.Span.{Span}
use Rattle.tune_template.specs.Vectors.{start_index}
use Rattle.tune_template.specs.Instances.{setting_count, template_of, instance_of}
use Rattle.tune_runs.specs.Runs.{asm_fault, template_fault}
use Rattle.tune_template.specs.declared.vector.WhichSetting.{WhichSetting}
use Rattle.tune_template.specs.declared.vector.WhichSetting.TheVariants.{Start, Index}
use Rattle.tune_runs.specs.declared.fault.RunFault.{RunFault}
use Rattle.tune_runs.specs.declared.fault.RunFault.TheVariants.{NoSuchSetting}

-- The index of the setting that is meant.
abbrev pub index_meant : WhichSetting → List Span → ℕ
index_meant Start spans = start_index spans
index_meant (Index index) spans = index

-- The index if it is below `count`, or else `NoSuchSetting`.
abbrev pub index_within : (count index : ℕ) → Result ℕ RunFault
index_within count index = if nat_lt index count then Ok index else Err (NoSuchSetting index)

-- The warrior to which a template assembles with the values of the setting, as it does in a tuning,
-- or the first fault.
unfoldable pub setting_warrior : List ℕ → WhichSetting → RulesView → Result WarriorView RunFault
setting_warrior source which rules = do
  t ← with_fault template_fault (template_of source)
  index ← index_within (setting_count t) (index_meant which t.ranges.spans)
  with_fault asm_fault (instance_of t rules index)

-- The output of `setting_run`: its load file.
abbrev pub setting_output : List ℕ → WhichSetting → RulesView → Result (Unit {0} × List ℕ) RunFault
setting_output source which rules = do
  w ← setting_warrior source which rules
  Ok (tt, load_text rules.core w)
