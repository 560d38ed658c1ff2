use Rattle.std.proofs.Common.{rules, tests}
use Rattle.std.proofs.lemmas.Iterator.{YieldsList-from_slice}
use Rattle.std.proofs.lemmas.Iterator.Search.{position_from_yields_List}
use Rattle.rc_asm.specs.Words.{is_comma}
use Rattle.rc_asm.proofs.Parts.{comma_found, no_comma_found}
use Rattle.rc_asm.proofs.form.first_comma.Goals as goal

pub returns-clause-found : goal.returns-clause-found
returns-clause-found c = comma_found c.args.tokens.now c.position.result (position_from_yields_List is_comma _ _ _ c.position.ensures.ran (YieldsList-from_slice c.args.tokens.now (cc)) (λ x b q k. search (rules, tests)))

pub returns-clause-none : goal.returns-clause-none
returns-clause-none c = no_comma_found c.args.tokens.now c.position.result (position_from_yields_List is_comma _ _ _ c.position.ensures.ran (YieldsList-from_slice c.args.tokens.now (cc)) (λ x b q k. search (rules, tests)))
