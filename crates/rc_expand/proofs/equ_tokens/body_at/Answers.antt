use Rattle.std.proofs.Common.{sym, ◌∙◌, ap, ℕ, Option}
use Rattle.std.specs.Global.{Vec}
use Rattle.rc_expand.proofs.Reading.TableIndices.{body_linked}
use Rattle.rc_expand.proofs.equ_tokens.body_at.Goals as goal

pub returns-clause-indices : goal.returns-clause-indices
returns-clause-indices c =
    body_linked c.args.context.now.source.now c.args.context.now.equs.now c.args.context.now.links.now c.in_ok-i.i c.in_ok-equ.equ.now c.tokens.result.now c.index-context-i.result c.as_slice.result.now c.args.context.now.linked c.in_ok-equ.ensures c.tokens.ensures c.index-context-i.is (c.as_slice.ensures.value ∙ ap (λ (v : Vec (Option ℕ)). v.items) (sym c.index-context-i.is))
