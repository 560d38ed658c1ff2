use Rattle.std.proofs.Common.{sym, ◌∙◌, ap}
use Rattle.std.specs.Prelude.{Err}
use Rattle.rc_text.specs.Symbols.{name_of}
use Rattle.rc_expand.specs.Contexts.{seen_context}
use Rattle.rc_expand.proofs.Replacing.LineSteps.{name_there, name_new}
use Rattle.rc_expand.proofs.replace.define_name.Goals as goal

pub returns-then-branch : goal.returns-then-branch
returns-then-branch c =
    let k = seen_context c.args.context.now in
    name_new k c.args.line (name_of k.source c.args.label.now) c.args.names.now c.in_ok-add.field-0 tt c.add.new.self
    (sym c.is_taken.ensures ∙ c.if-is_taken.false) c.if-branch.true c.in_ok-add.ensures.added c.in_ok-add.ensures.table

pub returns-else-branch : goal.returns-else-branch
returns-else-branch c =
    let k = seen_context c.args.context.now in
    λ h. name_there k c.args.line (name_of k.source c.args.label.now) c.args.names.now c.in_ok-add.field-0
    (sym c.is_taken.ensures ∙ c.if-is_taken.false) c.if-branch.false c.in_ok-add.ensures.added ∙ ap Err (sym c.at_line-else-branch.ensures)
