-- Faults at their lines.
use Rattle.std.specs.Prelude.{◌≡◌, ℕ, Result}
use Rattle.rc_instr.specs.Results.{Returns as ReturnsBut}
use Rattle.tune_template.specs.declared.fault.TemplateFault.{TemplateFault}
use Rattle.tune_template.specs.declared.fault.TemplateKind.{TemplateKind}
use Rattle.tune_template.specs.declared.fault.TemplateKind.TheVariants.{OutOfMemory}

-- A fault with its line.
abbrev pub at_line : ℕ → TemplateKind → TemplateFault
at_line line kind = record { line = line; kind = kind }

-- Out of memory has no line.
abbrev pub IsOutOfMemory : TemplateFault → Type 0
IsOutOfMemory fault = fault ≡ at_line 0 OutOfMemory

-- A call returns what the definition gives, seen through `view`, unless memory runs out.
abbrev pub Returns : {A B : Type 0} → (view : A → B) → (result : Result A TemplateFault) → (definition : Result B TemplateFault) → Type 0
Returns view result definition = ReturnsBut IsOutOfMemory view result definition
