-- What the run of the settings of a template writes, or why it refuses.
use Rattle.std.specs.Prelude.{ℕ, List, [], ◌∷◌, ◌++◌, Result, Ok, codes}
use Rattle.std.specs.Fmt.{decimal, signed_decimal}
use Rattle.rc_instr.specs.Results.{with_fault, ◌>>=◌}
use Rattle.tune_template.specs.declared.span.Span.{Span}
use Rattle.tune_template.specs.Spans.{span_value}
use Rattle.tune_template.specs.Instances.{TemplateView, setting_count, template_of}
use Rattle.tune_runs.specs.Report.{number_line}
use Rattle.tune_runs.specs.Runs.{template_fault, Writes, Writer}
use Rattle.tune_runs.specs.declared.fault.RunFault.{RunFault}

-- ` VALUES START` and a line feed: the number of a constant's values, and its value in the start
-- setting.
unfoldable pub span_text : Span → List ℕ
span_text s = codes " " ++ decimal s.count ++ codes " " ++ signed_decimal (span_value s s.start) ++ codes "\n"

-- For example `constant STEP 19 3045`, and a line feed.
unfoldable pub constant_line : List ℕ → Span → List ℕ
constant_line name s = codes "constant " ++ name ++ span_text s

-- A line for each constant.
abbrev pub constant_lines : List (List ℕ) → List Span → List ℕ
constant_lines (n ∷ names) (s ∷ spans) = constant_line n s ++ constant_lines names spans
constant_lines _ _ = []

-- The line `vectors COUNT`, and the lines of the constants.
unfoldable pub settings_text : TemplateView → List ℕ
settings_text t = number_line (codes "vectors ") (setting_count t) ++ constant_lines t.ranges.names t.ranges.spans

-- The output of `settings_run`: the text of the settings of a template, or its fault.
abbrev pub settings_output : List ℕ → Result (Unit {0} × List ℕ) RunFault
settings_output source = do
  t ← with_fault template_fault (template_of source)
  Ok (tt, settings_text t)

abbrev pub WritesSettings : List ℕ → Writer → Type 0
WritesSettings source out = Writes (settings_output source) tt out
