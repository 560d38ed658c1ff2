-- How runs end.
use Rattle.std.specs.Prelude.{◌≡◌, ◌≢◌, ◌↔◌, ℕ, List, Option, Result, Ok, Err, IfOk, IfErr, IsOk, IsErrOf, IsTrue}
use Rattle.std.specs.Io.KnownBytes.{Appends}
use Rattle.rc_instr.specs.Outlet.{OutletView}
use Rattle.rc_instr.specs.declared.loadfile.fault.LoadFault.{LoadFault}
use Rattle.rc_instr.specs.declared.loadfile.fault.LoadFault.TheVariants.{OutOfMemory as LoadMemory}
use Rattle.rc_asm.specs.declared.fault.AsmFault.{AsmFault}
use Rattle.rc_asm.specs.declared.fault.AsmKind.{AsmKind}
use Rattle.rc_asm.specs.declared.fault.AsmKind.TheVariants.{OutOfMemory as AsmMemory}
use Rattle.mars_core.specs.declared.side.Side.{Side}
use Rattle.mars_fight.specs.declared.fault.ScheduleFault.{ScheduleFault}
use Rattle.mars_fight.specs.declared.fault.ScheduleFaultKind.{ScheduleFaultKind}
use Rattle.mars_fight.specs.declared.fault.ScheduleFaultKind.TheVariants.{OutOfMemory as ScheduleMemory}
use Rattle.tune_template.specs.declared.fault.TemplateFault.{TemplateFault}
use Rattle.tune_template.specs.declared.fault.TemplateKind.{TemplateKind}
use Rattle.tune_template.specs.declared.fault.TemplateKind.TheVariants.{OutOfMemory as TemplateMemory}
use Rattle.tune_runs.specs.declared.fault.RunFault.{RunFault}
use Rattle.tune_runs.specs.declared.fault.RunFault.TheVariants.{Load, Asm, Template, Opponent, Schedule, Write, OutOfMemory}

-- ---- the fault of a run for a fault inside it; out of memory becomes the run's own

abbrev pub asm_fault : AsmFault → RunFault
asm_fault fault = by_kind fault.kind
  where
    by_kind : AsmKind → RunFault
    by_kind AsmMemory = OutOfMemory
    by_kind _ = Asm fault

abbrev pub opponent_fault : ℕ → AsmFault → RunFault
opponent_fault index fault = by_kind fault.kind
  where
    by_kind : AsmKind → RunFault
    by_kind AsmMemory = OutOfMemory
    by_kind _ = Opponent index fault

abbrev pub template_fault : TemplateFault → RunFault
template_fault fault = by_kind fault.kind
  where
    by_kind : TemplateKind → RunFault
    by_kind TemplateMemory = OutOfMemory
    by_kind _ = Template fault

abbrev pub schedule_fault : ScheduleFault → RunFault
schedule_fault fault = by_kind fault.kind
  where
    by_kind : ScheduleFaultKind → RunFault
    by_kind ScheduleMemory = OutOfMemory
    by_kind _ = Schedule fault

abbrev pub load_fault : Side → LoadFault → RunFault
load_fault side LoadMemory = OutOfMemory
load_fault side fault = Load side fault

-- ---- endings

abbrev pub IsOutOfMemory : RunFault → Type 0
IsOutOfMemory fault = fault ≡ OutOfMemory

-- A call returns what the definition gives, seen through `view`, unless memory runs out. It writes
-- nothing, so its fault is not `Write`.
abbrev pub Returns : {A B : Type 0} → (view : A → B) → (result : Result A RunFault) → (definition : Result B RunFault) → Type 0
Returns view (Ok x) definition = definition ≡ Ok (view x)
Returns view (Err e) definition = (e ≢ Write) × ((¬ IsOutOfMemory e) → definition ≡ Err e)

-- What a writer holds before and after a run, if it is known.
pub record Writer : Type 0 where
  pub old : Option (List ℕ)
  pub new : Option (List ℕ)

-- An outlet before and after a run, as a `Writer`.
abbrev pub writer : (old new : OutletView) → Writer
writer old new = record { old = old.bytes; new = new.bytes }

-- A text was appended.
abbrev pub Gets : Writer → List ℕ → Type 0
Gets out text = Appends out.old out.new text

-- The output of a run is this value and a text, and the whole text was appended.
abbrev pub Writes : {X : Type 0} → Result (X × List ℕ) RunFault → X → Writer → Type 0
Writes output x out = (text : List ℕ) × (output ≡ Ok (x, text)) × Gets out text

-- How a run ends. Its output is a value and the text to be written, or a fault.
pub record IsRun {X : Type 0} (output : Result (X × List ℕ) RunFault) (result : Result X RunFault) (old new : OutletView) : Type 0 where
  -- it returns the value, and the whole text was written
  pub done : IfOk result (λ x. Writes output x (writer old new))
  -- `Write`: the writer failed. The output is not a fault; how many bytes were written is open.
  pub stopped : IsErrOf result Write → IsOk output
  pub write : IsErrOf result Write ↔ IsTrue new.failed
  -- after any other fault nothing was written; unless memory ran out the output is this fault
  pub refused : IfErr result (λ e. e ≢ Write → (new ≡ old) × ((¬ IsOutOfMemory e) → output ≡ Err e))
