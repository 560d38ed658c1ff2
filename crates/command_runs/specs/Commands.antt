-- What the commands write of the files that they read, and how they end.
use Rattle.std.specs.Prelude.{◌≡◌, ◌≢◌, ◌⊎◌, ℕ, Bool, true, false, List, Option, Some, None, Result, Ok, Err, IfErr, OnOk, IsErrOf, IsTrue}
use Rattle.std.specs.Option.{option_map}
use Rattle.rc_instr.specs.Outlet.{OutletView}
use Rattle.rc_instr.specs.Rules.{RulesView}
use Rattle.tune_problem.specs.declared.aim.Aim.{Aim}
use Rattle.tune_problem.specs.declared.part.Part.{Part}
use Rattle.tune_cert.specs.Shares.{share_part}
use Rattle.tune_cert.specs.declared.demand.Demand.{Demand}
use Rattle.tune_cert.specs.declared.share.Share.{Share}
use Rattle.mars_core.specs.declared.side.Side.{Side}
use Rattle.tune_runs.specs.Runs.{Writer, writer, Writes}
use Rattle.tune_runs.specs.AsmRun.{asm_output}
use Rattle.tune_runs.specs.DuelRun.{duel, position_meant, WritesDuel}
use Rattle.tune_runs.specs.FightRun.{WritesFight}
use Rattle.tune_runs.specs.SettingRun.{setting_output}
use Rattle.tune_runs.specs.SettingsRun.{WritesSettings}
use Rattle.tune_runs.specs.TuneRun.{part_texts, WritesTuningFor}
use Rattle.tune_runs.specs.CheckRun.{WritesCheck}
use Rattle.tune_search.specs.declared.method.Method.{Method}
use Rattle.tune_template.specs.declared.vector.WhichSetting.{WhichSetting}
use Rattle.tune_runs.specs.declared.fault.RunFault.{RunFault}
use Rattle.tune_runs.specs.declared.fault.RunFault.TheVariants.{Write, OutOfMemory}
use Rattle.command_runs.specs.Input.{IsInput}
use Rattle.command_runs.specs.declared.ending.Ending.{Ending}
use Rattle.command_runs.specs.declared.ending.Ending.TheVariants.{Refused, Misused, Failed}

-- The result line of the fight in the input was written.
abbrev pub WritesFightIn : (input : Option (List ℕ)) → Writer → Type 0
WritesFightIn input out = (text : List ℕ) × IsInput input text × WritesFight text out

-- The output of `asm`: the load file of a text, or of a setting of a template; or the first fault.
abbrev pub load_file_output : List ℕ → Option WhichSetting → RulesView → Result (Unit {0} × List ℕ) RunFault
load_file_output source None rules = asm_output source rules
load_file_output source (Some which) rules = setting_output source which rules

abbrev pub WritesLoadFile : List ℕ → Option WhichSetting → RulesView → Writer → Type 0
WritesLoadFile source setting rules out = Writes (load_file_output source setting rules) tt out

-- The result line of a fight of two texts was written. Without `position` the opponent is loaded at
-- half of the core.
abbrev pub WritesDuelOf : RulesView → (position : Option ℕ) → (first : Side) → Writer → Type 0
WritesDuelOf rules position first out =
    (candidate : List ℕ) × (opponent : List ℕ) × WritesDuel (duel candidate opponent rules (position_meant rules position) first) out

-- The report of a tuning of some texts was written, and a certificate.
abbrev pub WritesReport : Aim → Method → RulesView → Part → (report : Writer) → Type 0
WritesReport aim method rules part report =
    (template : List ℕ) × (opponents : List (List ℕ)) × (schedule : List ℕ) × (old : Option (List ℕ)) × (new : Option (List ℕ))
    × WritesTuningFor (part_texts template opponents schedule rules part) aim method report (record { old = old; new = new })

-- The lines of a check of some texts and a certificate were written.
abbrev pub WritesCheckLine : RulesView → Part → Demand → Option Share → Bool → Writer → Type 0
WritesCheckLine rules part demand share accepted out =
    (template : List ℕ) × (opponents : List (List ℕ)) × (schedule : List ℕ) × (cert : List ℕ)
    × WritesCheck (part_texts template opponents schedule rules part) demand (option_map share_part share) cert accepted out

-- ---- what a command wrote, for some files and some values of its options

abbrev pub WritesSomeDuel : Writer → Type 0
WritesSomeDuel out =
    (candidate : List ℕ) × (opponent : List ℕ) × (rules : RulesView) × (position : ℕ) × (first : Side)
    × WritesDuel (duel candidate opponent rules position first) out

abbrev pub WritesSomeLoadFile : Writer → Type 0
WritesSomeLoadFile out =
    (source : List ℕ) × (setting : Option WhichSetting) × (rules : RulesView) × WritesLoadFile source setting rules out

abbrev pub WritesSomeSettings : Writer → Type 0
WritesSomeSettings out = (source : List ℕ) × WritesSettings source out

abbrev pub WritesSomeReport : Writer → Type 0
WritesSomeReport out = (aim : Aim) × (method : Method) × (rules : RulesView) × (part : Part) × WritesReport aim method rules part out

abbrev pub WritesSomeCheckLine : Bool → Writer → Type 0
WritesSomeCheckLine accepted out =
    (rules : RulesView) × (part : Part) × (demand : Demand) × (share : Option Share) × WritesCheckLine rules part demand share accepted out

-- The exit status of a command.
abbrev pub status_of : {X : Type 0} → Result X Ending → ℕ
status_of (Ok _) = 0
status_of (Err Refused) = 1
status_of (Err Misused) = 2
status_of (Err Failed) = 3

-- How every command ends: a usage error left standard output as it was, and so did a failure,
-- unless a write failed. A failed write ended as `Failed`.
pub record KeepsOutput {X : Type 0} (old new : OutletView) (result : Result X Ending) : Type 0 where
  pub misused : IsErrOf result Misused → new ≡ old
  pub failed : IsTrue new.failed → IsErrOf result Failed
  pub lost : IsErrOf result Failed → (new ≡ old) ⊎ IsTrue new.failed

-- How a command ends, unless it is a check. `Wrote` says what it writes if it succeeds. A refusal
-- left standard output as it was.
pub record IsEnded {X : Type 0} (Wrote : Type 0) (old new : OutletView) (result : Result X Ending) : Type 0 where
  pub done : OnOk result Wrote
  pub refused : IsErrOf result Refused → new ≡ old
  pub kept : KeepsOutput old new result

-- How `fight`, `asm` and `settings` end once their words are understood: not with a usage error.
abbrev pub EndsUnderstood : {X : Type 0} → (Wrote : Type 0) → (old new : OutletView) → Result X Ending → Type 0
EndsUnderstood Wrote old new result = IsEnded Wrote old new result × IfErr result (λ e. e ≢ Misused)

-- How a check ends. `Wrote` says what it writes if it accepts, and if it rejects. An input that is
-- refused left standard output as it was.
pub record IsCheckEnded {X : Type 0} (Wrote : Bool → Writer → Type 0) (old new : OutletView) (result : Result X Ending) : Type 0 where
  pub done : OnOk result (Wrote true (writer old new))
  pub refused : IsErrOf result Refused → (new ≡ old) ⊎ Wrote false (writer old new)
  pub kept : KeepsOutput old new result

-- The ending of a fault of a run: `Failed` if a write failed or memory ran out, and otherwise
-- `Refused`.
pub record IsEndingOf (fault : RunFault) (ending : Ending) : Type 0 where
  pub refused : ending ≡ Refused → (fault ≢ Write) × (fault ≢ OutOfMemory)
  pub failed : ending ≡ Failed → (fault ≡ Write) ⊎ (fault ≡ OutOfMemory)
  pub either : (ending ≡ Refused) ⊎ (ending ≡ Failed)
