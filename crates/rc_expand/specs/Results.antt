-- A fault at its line; and what a call of the expansion says.
use Rattle.std.specs.Prelude.{◌≡◌, ℕ, Result}
use Rattle.rc_instr.specs.Results.{Returns as ReturnsBut}
use Rattle.rc_expand.specs.declared.fault.ExpandFault.{ExpandFault}
use Rattle.rc_expand.specs.declared.fault.ExpandKind.{ExpandKind}
use Rattle.rc_expand.specs.declared.fault.ExpandKind.TheVariants.{OutOfMemory}

abbrev pub at_line : ℕ → ExpandKind → ExpandFault
at_line line kind = record { line = line; kind = kind }

-- Out of memory has no line.
abbrev pub IsOutOfMemory : ExpandFault → Type 0
IsOutOfMemory fault = fault ≡ at_line 0 OutOfMemory

-- A call returns what the definition gives, seen through `view`, unless memory runs out.
abbrev pub Returns : {A B : Type 0} → (view : A → B) → (result : Result A ExpandFault) → (definition : Result B ExpandFault) → Type 0
Returns view result definition = ReturnsBut IsOutOfMemory view result definition
