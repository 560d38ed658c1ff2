-- What the texts of a tuning mean, what its run writes, and why it refuses.
use Rattle.std.specs.Prelude.{◌≡◌, ◌≢◌, ◌↔◌, ◌⊎◌, ℕ, ◌+◌, ◌<◌, Bool, ◌&&◌, nat_le, List, [], ◌∷◌, length, Option, Some, None, true, false, Result, Ok, Err, IfErr, OnOk, IsOk, IsErrOf, IsTrue}
use Rattle.rc_instr.specs.Results.{with_fault, ◌>>=◌, check}
use Rattle.rc_instr.specs.Rules.{RulesView}
use Rattle.rc_instr.specs.Warrior.{WarriorView}
use Rattle.rc_instr.specs.Outlet.{OutletView}
use Rattle.rc_asm.specs.Assembly.{outcome_of}
use Rattle.mars_fight.specs.Schedule.{schedule_of}
use Rattle.tune_template.specs.Instances.{setting_count, template_of}
use Rattle.tune_problem.specs.Limits.{MOST_OPPONENTS}
use Rattle.tune_problem.specs.declared.part.Part.{Part}
use Rattle.tune_problem.specs.Parts.{part, whole}
use Rattle.tune_problem.specs.Inputs.{InputsView}
use Rattle.tune_problem.specs.Problem.{problem_of}
use Rattle.tune_cert.specs.CertText.{statement_text, statement_with}
use Rattle.tune_problem.specs.Ranking.{best_alone, first_of}
use Rattle.tune_problem.specs.declared.aim.Aim.{Aim}
use Rattle.tune_problem.specs.declared.statement.Answer.{Answer}
use Rattle.tune_problem.specs.declared.statement.Answer.TheVariants.{Best as TheBest, NoneFrom}
use Rattle.tune_problem.specs.declared.watcher.Best.{Best}
use Rattle.tune_search.specs.Findings.{IsSearchFor}
use Rattle.tune_search.specs.Found.{NoneAssembles}
use Rattle.tune_search.specs.declared.findings.Findings.{Findings}
use Rattle.tune_search.specs.declared.method.Method.{Method}
use Rattle.tune_search.specs.declared.fault.SearchFault.{SearchFault}
use Rattle.tune_search.specs.declared.fault.SearchFault.TheVariants.{NoCandidate as NoneFound, OutOfMemory as SearchMemory}
use Rattle.tune_runs.specs.Report.{report_text, report_for}
use Rattle.tune_runs.specs.Runs.{opponent_fault, template_fault, schedule_fault, IsOutOfMemory, Writer, writer, Gets}
use Rattle.tune_runs.specs.declared.fault.RunFault.{RunFault}
use Rattle.tune_runs.specs.declared.fault.RunFault.TheVariants.{TooManyOpponents, Template, Opponent, Schedule, NoCandidate, Write, OutOfMemory, Part as BadPart}

-- The texts of a tuning, its rules, and the part of the template's settings that it searches.
pub record Texts : Type 0 where
  pub template : List ℕ
  pub opponents : List (List ℕ)
  pub schedule : List ℕ
  pub rules : RulesView
  pub part : Part

abbrev pub part_texts : List ℕ → List (List ℕ) → List ℕ → RulesView → Part → Texts
part_texts template opponents schedule rules part =
    record { template = template; opponents = opponents; schedule = schedule; rules = rules; part = part }

-- The texts of a tuning of all settings, which are part 1 of 1.
abbrev pub texts : List ℕ → List (List ℕ) → List ℕ → RulesView → Texts
texts template opponents schedule rules = part_texts template opponents schedule rules whole

-- The same texts with part `number` of `parts`.
abbrev pub of_part : Texts → ℕ → ℕ → Texts
of_part t number parts = part_texts t.template t.opponents t.schedule t.rules (part number parts)

-- The warriors of the opponents' texts, of which the first has this index, or the first fault.
abbrev pub opponents_from : RulesView → (index : ℕ) → List (List ℕ) → Result (List WarriorView) RunFault
opponents_from rules index [] = Ok []
opponents_from rules index (text ∷ texts) = do
  w ← with_fault (opponent_fault index) (outcome_of text [] rules)
  ws ← opponents_from rules (index + 1) texts
  Ok (w ∷ ws)

-- Parts are counted from 1, and there are at most as many as settings.
abbrev pub is_part : Part → ℕ → Bool
is_part p count = nat_le 1 p.number && (nat_le p.number p.parts && nat_le p.parts count)

-- The inputs that the texts mean, or the first fault.
unfoldable pub meaning_of : Texts → Result InputsView RunFault
meaning_of t = do
  _ ← check (nat_le (length t.opponents) MOST_OPPONENTS) TooManyOpponents
  template ← with_fault template_fault (template_of t.template)
  opponents ← opponents_from t.rules 0 t.opponents
  schedule ← with_fault schedule_fault (schedule_of t.rules (length t.opponents) t.schedule)
  _ ← check (is_part t.part (setting_count template)) BadPart
  Ok (record { template = template; opponents = opponents; schedule = schedule; rules = t.rules; part = t.part })

-- The faults of texts, except `BadPart`. `OutOfMemory` is among them because `template_fault` can
-- return it; no text has it.
abbrev pub is_text_fault : RunFault → Bool
is_text_fault TooManyOpponents = true
is_text_fault (Template fault) = true
is_text_fault (Opponent index fault) = true
is_text_fault (Schedule fault) = true
is_text_fault OutOfMemory = true
is_text_fault _ = false

abbrev pub Means : Texts → InputsView → Type 0
Means t i = meaning_of t ≡ Ok i

-- The texts mean inputs of which no setting assembles.
abbrev pub HasNoCandidate : Texts → Type 0
HasNoCandidate t = (i : InputsView) × Means t i × NoneAssembles (problem_of i)

-- The fault of a run whose search fails.
abbrev pub fault_of : SearchFault → RunFault
fault_of NoneFound = NoCandidate
fault_of SearchMemory = OutOfMemory

-- What a tuning finds: the inputs that the texts mean, some of whose settings assemble, and what a
-- search for this aim by this method finds for them.
abbrev pub IsTuning : Texts → Aim → Method → InputsView → Findings → Type 0
IsTuning t aim method i f = Means t i × IsSearchFor (problem_of i) aim method f × (0 < f.candidates)

-- What the certificate of a tuning with this floor says: which setting is the best, or that none
-- reaches the floor.
abbrev pub answer_of : (floor : ℕ) → Option Best → Answer
answer_of floor None = NoneFrom floor
answer_of floor (Some best) = TheBest best

-- The certificate and the report of what a tuning finds were written.
abbrev pub WritesTuningFor : Texts → Aim → Method → (report cert : Writer) → Type 0
WritesTuningFor t aim method report cert =
    (i : InputsView) × (f : Findings) × IsTuning t aim method i f
    × Gets cert (statement_text (statement_with f.version (answer_of aim.floor (first_of f.ranking)) f.rows))
    × Gets report (report_text (report_for i aim f))

-- The certificate and the report of the best setting, whatever its total, were written.
abbrev pub WritesTuning : Texts → Method → (report cert : Writer) → Type 0
WritesTuning t method report cert = WritesTuningFor t best_alone method report cert

-- The report of the best setting was written, and its certificate to some writer.
abbrev pub WritesOptimum : Texts → Method → (report : Writer) → Type 0
WritesOptimum t method report =
    (old : Option (List ℕ)) × (new : Option (List ℕ)) × WritesTuning t method report (record { old = old; new = new })

-- How a run of a tuning ends. `Wrote` says what the writers of the report and of the certificate
-- get from a run that succeeds.
pub record IsTuneRun {X : Type 0} (t : Texts) (Wrote : (report cert : Writer) → Type 0) (result : Result X RunFault)
    (report_old report_new cert_old cert_new : OutletView) : Type 0 where
  -- it succeeded: both were written
  pub done : OnOk result (Wrote (writer report_old report_new) (writer cert_old cert_new))
  -- `Write`: a writer failed. The texts have a meaning; how many bytes were written is open.
  pub stopped : IsErrOf result Write → IsOk (meaning_of t)
  pub write : IsErrOf result Write ↔ (IsTrue report_new.failed ⊎ IsTrue cert_new.failed)
  -- after any other fault nothing was written; unless memory ran out the texts have this fault, or
  -- a meaning without a candidate
  pub unwritten : IfErr result (λ e. e ≢ Write → (report_new ≡ report_old) × (cert_new ≡ cert_old))
  pub refused : IfErr result (λ e. e ≢ Write → (¬ IsOutOfMemory e) → (meaning_of t ≡ Err e) ⊎ ((e ≡ NoCandidate) × HasNoCandidate t))
  -- the report begins only after the certificate is out and flushed
  pub order : IsTrue cert_new.failed → report_new ≡ report_old
  pub before : (report_new ≡ report_old) ⊎ (cert_new.flushed ≡ true)
  pub flushed : OnOk result (cert_new.flushed ≡ true)
