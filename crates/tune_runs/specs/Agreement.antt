-- What tunings and checks of the same texts wrote, and how they agree.
use Rattle.std.specs.Prelude.{◌≡◌, ℕ, ◌≤◌, Bool, true, List, [], ◌++◌, codes, Some, None}
use Rattle.tables.specs.Records.{Fields, records_of}
use Rattle.tune_problem.specs.Below.{AllBelow}
use Rattle.tune_problem.specs.BestPart.{in_whole, AllStayBelow, IsBestPart}
use Rattle.tune_problem.specs.Inputs.{InputsView}
use Rattle.tune_problem.specs.Optimum.{IsBest}
use Rattle.tune_problem.specs.Parts.{part, ForEach}
use Rattle.tune_problem.specs.Problem.{problem_of}
use Rattle.tune_problem.specs.Valid.{cert_of}
use Rattle.tune_problem.specs.declared.aim.Aim.{Aim}
use Rattle.tune_problem.specs.declared.cert.Found.{Found}
use Rattle.tune_problem.specs.declared.part.Part.{Part}
use Rattle.tune_problem.specs.declared.statement.Answer.{Answer}
use Rattle.tune_problem.specs.declared.watcher.Best.{Best}
use Rattle.tune_problem.specs.Ranking.{best_alone}
use Rattle.tune_cert.specs.CertText.{cert_text}
use Rattle.tune_cert.specs.Judgement.{no_demand, judged}
use Rattle.tune_cert.specs.declared.demand.Demand.{Demand}
use Rattle.tune_cert.specs.declared.verdict.Verdict.{Verdict}
use Rattle.tune_cert.specs.declared.verdict.Verdict.TheVariants.{Accepted}
use Rattle.tune_search.specs.Found.{IsSearch, as_findings}
use Rattle.tune_search.specs.declared.method.Method.{Method}
use Rattle.tune_runs.specs.Report.{report_text, report_for}
use Rattle.tune_runs.specs.TuneRun.{Texts, of_part, Means, WritesTuningFor}
use Rattle.tune_runs.specs.Runs.{Writer, Gets}
use Rattle.tune_runs.specs.CheckRun.{WritesCheck, HasRightVerdict, AcceptsFor, IsShown, accepted_words, accepts, answer_text, verdict_line}

-- A writer that was empty, and holds these bytes.
abbrev pub filled : List ℕ → Writer
filled bytes = record { old = Some []; new = Some bytes }

-- ---- tunings

-- The bytes that a tuning gave two empty writers.
pub record TuningBytes : Type 0 where
  pub report : List ℕ
  pub cert : List ℕ

-- A tuning for this aim by this method gave these bytes.
abbrev pub GivesBytes : Texts → Aim → Method → TuningBytes → Type 0
GivesBytes t aim method o = WritesTuningFor t aim method (filled o.report) (filled o.cert)

-- The texts mean these inputs, and a search by this method may find this for them.
pub record MayFind (t : Texts) (method : Method) (i : InputsView) (f : Found) : Type 0 where
  pub means : Means t i
  pub search : IsSearch (problem_of i) method f

-- The records of the certificate of what was found.
abbrev pub written : Found → List Fields
written f = records_of (cert_text (cert_of f))

-- ---- checks

-- A check of all rows of these bytes for the optimum alone wrote its line; `accepted` says whether
-- it accepts.
abbrev pub Checks : Texts → List ℕ → (accepted : Bool) → Writer → Type 0
Checks t bytes accepted out = WritesCheck t no_demand None bytes accepted out

-- The line is that of the right verdict on the bytes, and `accepted` says whether that accepts.
pub record IsRightLine (t : Texts) (bytes : List ℕ) (accepted : Bool) (out : Writer) : Type 0 where
  pub verdict : Verdict
  pub right : HasRightVerdict t bytes verdict
  pub says : accepted ≡ accepts (judged verdict)
  pub line : Gets out (verdict_line None verdict)

-- The certificate, the report and the line of a check name the setting that the tuning found, with
-- its total: the optimum.
pub record Agree (t : Texts) (method : Method) (report cert line : Writer) : Type 0 where
  pub inputs : InputsView
  pub found : Found
  pub tuning : MayFind t method inputs found
  pub certified : Gets cert (cert_text (cert_of found))
  pub reported : Gets report (report_text (report_for inputs best_alone (as_findings found)))
  pub accepted : Gets line (verdict_line None (Accepted found.best found.total))

-- A check of all rows of these bytes with a demand wrote its lines; `accepted` says whether it
-- accepts.
abbrev pub ChecksFor : Texts → Demand → List ℕ → (accepted : Bool) → Writer → Type 0
ChecksFor t demand bytes accepted out = WritesCheck t demand None bytes accepted out

-- The first line says `accepted` and an answer, with which the bytes are accepted.
pub record NamesAnswer (t : Texts) (demand : Demand) (bytes : List ℕ) (out : Writer) : Type 0 where
  pub answer : Answer
  pub accepts : AcceptsFor t demand bytes answer
  pub rest : List ℕ
  pub lines : Gets out (codes "accepted" ++ answer_text answer ++ rest)

-- ---- parts

-- For each part, a check accepts these bytes with its outcome, or the part has no candidate.
abbrev pub AreShown : Texts → (parts : ℕ) → (cert : ℕ → List ℕ) → (outcome : ℕ → Answer) → Type 0
AreShown t parts cert outcome = ForEach parts (λ n. IsShown (of_part t n parts) (cert n) (outcome n))

-- The outcome of each part is shown, and `number` is the first part with the greatest total.
pub record IsBestShown (t : Texts) (parts number : ℕ) (best : Best) : Type 0 where
  pub cert : ℕ → List ℕ
  pub outcome : ℕ → Answer
  pub shown : AreShown t parts cert outcome
  pub first : IsBestPart parts outcome number best

-- The best setting of a part is the optimum of all settings. Its index among all is its index in
-- the part plus the index at which the part begins.
abbrev pub IsBestOfAll : Texts → (parts number : ℕ) → Best → Type 0
IsBestOfAll t parts number best = (i : InputsView) × Means (of_part t 1 1) i × IsBest (problem_of i) (in_whole i number parts best)

-- The outcomes of the parts are shown, and by them no candidate reaches the floor.
pub record AreShownBelow (t : Texts) (parts floor : ℕ) : Type 0 where
  pub some : 1 ≤ parts
  pub cert : ℕ → List ℕ
  pub outcome : ℕ → Answer
  pub shown : AreShown t parts cert outcome
  pub below : AllStayBelow floor parts outcome

-- No candidate of all settings reaches the floor.
abbrev pub AreAllBelow : Texts → (floor : ℕ) → Type 0
AreAllBelow t floor = (i : InputsView) × Means (of_part t 1 1) i × AllBelow (problem_of i) floor

-- ---- shares

-- The first line of a share that accepts names this answer.
abbrev pub NamesIn : (share : Part) → Answer → Writer → Type 0
NamesIn share answer out = (rest : List ℕ) × Gets out (accepted_words (Some share) ++ answer_text answer ++ rest)

-- Each share of these bytes was checked with this demand, and accepts them.
pub record AllAccept (t : Texts) (demand : Demand) (shares : ℕ) (bytes : List ℕ) (out : ℕ → Writer) : Type 0 where
  pub some : 1 ≤ shares
  pub each : ForEach shares (λ n. WritesCheck t demand (Some (part n shares)) bytes true (out n))

-- The first line of each share names this answer.
abbrev pub AllName : (shares : ℕ) → Answer → (out : ℕ → Writer) → Type 0
AllName shares answer out = ForEach shares (λ n. NamesIn (part n shares) answer (out n))

-- If a check of all rows accepts these bytes, the share accepts them, too, and names the same
-- answer.
abbrev pub AcceptsAsWhole : Texts → Demand → (share : Part) → List ℕ → (accepted : Bool) → Writer → Type 0
AcceptsAsWhole t demand share bytes accepted out =
    (answer : Answer) → AcceptsFor t demand bytes answer → (accepted ≡ true) × NamesIn share answer out
