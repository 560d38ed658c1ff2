-- A tuning, and a check of what it wrote that is asked for the same ranking and floor.
use Rattle.std.specs.Prelude.{ℕ, Bool, List, ◌++◌, Option}
use Rattle.std.specs.Option.{unwrap_or}
use Rattle.tune_problem.specs.Inputs.{InputsView}
use Rattle.tune_problem.specs.Ranking.{IsAim, first_of}
use Rattle.tune_problem.specs.declared.aim.Aim.{Aim}
use Rattle.tune_problem.specs.declared.part.Part.{Part}
use Rattle.tune_cert.specs.Spelling.{FitsU32}
use Rattle.tune_cert.specs.declared.demand.Demand.{Demand}
use Rattle.tune_search.specs.declared.findings.Findings.{Findings}
use Rattle.tune_search.specs.declared.method.Method.{Method}
use Rattle.tune_runs.specs.Report.{rank_lines, report_for, report_text}
use Rattle.tune_runs.specs.TuneRun.{Texts, IsTuning, WritesTuningFor, answer_of}
use Rattle.tune_runs.specs.CheckRun.{WritesCheck, accepted_words, answer_text}
use Rattle.tune_runs.specs.Runs.{Writer, Gets}

-- The aim of a tuning that is asked for what a check demands: it keeps one setting if `keep` is
-- None, and has the floor 0 if `floor` is None. A `keep` out of its limits gives no aim, which
-- `IsAsked` rules out.
abbrev pub aim_of : Demand → Aim
aim_of demand = record { keep = unwrap_or demand.keep 1; floor = unwrap_or demand.floor 0 }

-- What a tuning and a check are asked for: texts, `--keep` and `--floor` as a demand, the method of
-- the tuning, and the share of the rows that is checked, or all rows.
pub record Asked : Type 0 where
  pub texts : Texts
  pub demand : Demand
  pub method : Method
  pub share : Option Part

-- `keep` is within its limits, and the floor fits a `u32`.
pub record IsAsked (a : Asked) : Type 0 where
  pub aim : IsAim (aim_of a.demand)
  pub floor : FitsU32 (aim_of a.demand).floor

-- The tuning wrote its report and its certificate.
abbrev pub TunesAsked : Asked → (report cert : Writer) → Type 0
TunesAsked a report cert = WritesTuningFor a.texts (aim_of a.demand) a.method report cert

-- The check of these bytes wrote its lines; `accepted` says whether it accepts.
abbrev pub ChecksAsked : Asked → List ℕ → (accepted : Bool) → Writer → Type 0
ChecksAsked a bytes accepted out = WritesCheck a.texts a.demand a.share bytes accepted out

-- The lines of a check that accepts the answer of these findings, and the ranking of their report.
abbrev pub accepted_lines : InputsView → Aim → Option Part → Findings → List ℕ
accepted_lines i aim share f =
    accepted_words share ++ answer_text (answer_of aim.floor (first_of f.ranking)) ++ rank_lines 1 (report_for i aim f).ranking

-- The lines of the check say what the tuning found: its answer, and the ranking of its report, if
-- the report has one.
pub record AgreeAsked (a : Asked) (report out : Writer) : Type 0 where
  pub inputs : InputsView
  pub found : Findings
  pub tuning : IsTuning a.texts (aim_of a.demand) a.method inputs found
  pub reported : Gets report (report_text (report_for inputs (aim_of a.demand) found))
  pub lines : Gets out (accepted_lines inputs (aim_of a.demand) a.share found)
