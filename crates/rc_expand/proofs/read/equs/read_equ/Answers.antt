use Rattle.std.proofs.Common.{◌∙◌, sym}
use Rattle.rc_text.specs.Symbols.{name_of}
use Rattle.rc_expand.proofs.Reading.EquSteps.{not_found}
use Rattle.rc_expand.proofs.read.equs.read_equ.Goals as goal

pub returns-clause-new : goal.returns-clause-new
returns-clause-new c =
    not_found c.args.equs.now c.in_ok-name.name (name_of c.args.source.now c.in_ok-token.token.now) c.equ_line.result c.in_ok-name.ensures c.equ_line.ensures
    (sym c.is_some.ensures ∙ c.if-is_some.false)
