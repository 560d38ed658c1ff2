use Rattle.std.proofs.Common.{◌∙◌, ap, sym}
use Rattle.rc_text.specs.Reading.{evaluation_of}
use Rattle.rc_text.proofs.WholeReading.{one_symbol}
use Rattle.rc_text.proofs.expression.eval.Goals as goal

pub returns-in-len1 : goal.returns-in-len1
returns-in-len1 g c =
    c.eval_token.ensures ∙ ap (evaluation_of (g.N.Names.meaning c.args.names.now)) (sym (one_symbol c.args.source.now c.args.tokens.now c.token-item.result c.in-len1.len_at_least c.in-len1.len_below c.token-item.is))
