use Rattle.std.proofs.Common.{◌≡◌, sym, ◌∙◌, ap, map}
use Rattle.rc_text.specs.Symbols.{name_of}
use Rattle.rc_expand.specs.Contexts.{seen_context}
use Rattle.rc_expand.specs.NameTables.{names_in}
use Rattle.rc_expand.specs.Replace.Lines.{own_labels, with_names, LinesSoFarView, line_replaced}
use Rattle.rc_expand.proofs.Replacing.LineSteps.{line_made}
use Rattle.rc_expand.proofs.replace.replace_line.Goals as goal

pub returns-in_ok-push-in_default : goal.returns-in_ok-push-in_default
returns-in_ok-push-in_default c =
    let k = seen_context c.args.context.now in
    let s = k.source in
    let h = c.args.raw.now in
    let own : c.as_slice-2.result.now ≡ own_labels s h.labels = c.as_slice-2.ensures ∙ (c.in_ok-labels.ensures.own ∙ ap (own_labels s) c.as_slice.ensures) in
    let old : LinesSoFarView = record { names = names_in c.out.inside.names; lines = c.out.inside.lines.items } in
    let names = ap (λ ts. with_names k h.number (map (name_of s) ts) old.names) (sym own) ∙ c.in_ok-define_names.ensures in
    ap (line_replaced k h) (sym c.out.view_is)
    ∙ line_made k h old (names_in c.define_names.new.names) c.in_ok-line-in_default.line c.push.new.self.items names c.in_default.not-Equ c.in_ok-line-in_default.ensures c.in_ok-push-in_default.ensures.items
