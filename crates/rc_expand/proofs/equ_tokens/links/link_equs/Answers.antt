use Rattle.std.proofs.Common.{◌∙◌, ap, map, ℕ, Option}
use Rattle.std.specs.Global.{Vec}
use Rattle.rc_expand.specs.Equs.{EquView, equ_in}
use Rattle.rc_expand.specs.NameTables.{at_index}
use Rattle.rc_expand.proofs.Reading.TableIndices.{value_pushed, values_done}
use Rattle.rc_expand.proofs.equ_tokens.links.link_equs.Goals as goal

pub loop-equ-preserved : goal.loop-equ-preserved
loop-equ-preserved c =
    value_pushed (λ (e : EquView). map (equ_in c.args.source.now c.args.equs.now) e.tokens) (λ (v : Vec (Option ℕ)). map (at_index c.args.equs.now) v.items) c.args.equs.now c.loop-equ.index c.in-Some.equ.now c.loop-equ.links.items c.push.new.self.items c.in_ok-link_tokens.field-0
    c.in-Some.ensures c.in_ok-push.ensures.items (c.in_ok-link_tokens.ensures ∙ ap (map (equ_in c.args.source.now c.args.equs.now)) c.tokens.ensures) c.loop-equ.invariant

pub returns : goal.returns
returns c =
    values_done (λ (e : EquView). map (equ_in c.args.source.now c.args.equs.now) e.tokens) c.args.equs.now c.loop-equ.index (map (λ (v : Vec (Option ℕ)). map (at_index c.args.equs.now) v.items) c.loop-equ.links.items) c.in_default.ensures c.loop-equ.invariant
