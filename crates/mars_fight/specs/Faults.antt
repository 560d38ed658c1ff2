-- Faults at their records.
use Rattle.std.specs.Prelude.{◌≡◌, ℕ, Result}
use Rattle.rc_instr.specs.Results.{Returns as ReturnsBut}
use Rattle.mars_fight.specs.declared.fault.ScheduleFault.{ScheduleFault}
use Rattle.mars_fight.specs.declared.fault.ScheduleFaultKind.{ScheduleFaultKind}
use Rattle.mars_fight.specs.declared.fault.ScheduleFaultKind.TheVariants.{OutOfMemory}

abbrev pub at_row : ℕ → ScheduleFaultKind → ScheduleFault
at_row row kind = record { row = row; kind = kind }

-- Out of memory is at record 0.
abbrev pub IsOutOfMemory : ScheduleFault → Type 0
IsOutOfMemory fault = fault ≡ at_row 0 OutOfMemory

-- A call returns what the definition gives, seen through `view`, unless memory runs out.
abbrev pub Returns : {A B : Type 0} → (view : A → B) → (result : Result A ScheduleFault) → (definition : Result B ScheduleFault) → Type 0
Returns view result definition = ReturnsBut IsOutOfMemory view result definition
