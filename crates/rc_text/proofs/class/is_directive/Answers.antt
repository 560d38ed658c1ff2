use Rattle.std.proofs.Common.{arith, refl}
use Rattle.rc_text.specs.NameClasses.{directives}
use Rattle.rc_text.proofs.WordSteps.{no_word}
use Rattle.rc_text.proofs.class.is_directive.Goals as goal

pub returns-in_default : goal.returns-in_default
returns-in_default c = no_word directives c.args.name.now refl (λ e. omega (arith, c.in_default.len_below, e))

pub returns-in_default-2 : goal.returns-in_default-2
returns-in_default-2 c = no_word directives c.args.name.now refl (λ e. omega (arith, c.in_default.len_at_least, e))
