-- Faults at their lines, and the forms of lines, which are checked before the values.
use Rattle.std.specs.Prelude.{◌≡◌, ℕ, List, [], ◌∷◌, Result, Ok, Err}
use Rattle.rc_instr.specs.Results.{mapped, with_fault, ◌>>=◌, Returns as ReturnsBut}
use Rattle.rc_text.specs.declared.token.Token.{Token}
use Rattle.rc_expand.specs.declared.line.LineWord.{LineWord}
use Rattle.rc_expand.specs.declared.line.LineWord.TheVariants.{Code, Org}
use Rattle.rc_expand.specs.declared.line.Line.{Line}
use Rattle.rc_asm.specs.declared.fault.AsmKind.{AsmKind}
use Rattle.rc_asm.specs.declared.fault.AsmKind.TheVariants.{MissingOperand, OutOfMemory}
use Rattle.rc_asm.specs.declared.fault.AsmFault.{AsmFault}
use Rattle.rc_asm.specs.Form.{form_of}

abbrev pub at_line : ℕ → AsmKind → AsmFault
at_line line kind = record { line = line; kind = kind }

-- Out of memory has no line.
abbrev pub IsOutOfMemory : AsmFault → Type 0
IsOutOfMemory fault = fault ≡ at_line 0 OutOfMemory

-- A call returns what the definition gives, seen through `view`, unless memory runs out.
abbrev pub Returns : {A B : Type 0} → (view : A → B) → (result : Result A AsmFault) → (definition : Result B AsmFault) → Type 0
Returns view result definition = ReturnsBut IsOutOfMemory view result definition

-- A line of code must parse, and ORG needs an expression.
abbrev pub form_check : List ℕ → LineWord → List Token → Result (Unit {0}) AsmKind
form_check source Code ts = mapped (λ form. tt) (form_of source ts)
form_check source Org [] = Err MissingOperand
form_check source _ ts = Ok tt

-- All lines are well formed, or the first that is not.
abbrev pub forms_check : List ℕ → List Line → Result (Unit {0}) AsmFault
forms_check source [] = Ok tt
forms_check source (l ∷ ls) = do
  _ ← with_fault (at_line l.number) (form_check source l.word l.tokens)
  forms_check source ls
