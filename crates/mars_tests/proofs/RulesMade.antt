-- Rules that are made are those of the numbers that were given.
use Rattle.std.proofs.Common.{◌≡◌, sym, Ok, Err}
use Rattle.std.specs.Prelude.{IfOk, Result}
use Rattle.rc_instr.specs.Rules.{RulesView}
use Rattle.rc_instr.specs.Checks.{rules_of}
use Rattle.rc_instr.specs.declared.rules.RulesError.{RulesError}
use Rattle.rc_instr.proofs.CheckSteps.{rules_kept}

pub are_given : (r : RulesView) (x : Result RulesView RulesError) → x ≡ rules_of r → IfOk x (λ w. w ≡ r)
are_given r (Ok w) h = (rules_kept r w (sym h)).0
are_given r (Err e) h = tt
