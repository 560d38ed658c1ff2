use Rattle.std.proofs.Common.{◌≡◌, ◌∙◌, ap, ◌++◌}
use Rattle.rc_instr.specs.LoadText.{load_text}
use Rattle.rc_instr.specs.LoadMeaning.{load_meaning}
use Rattle.rc_instr.proofs.Loads.{means, read_back}
use Rattle.rc_instr.proofs.laws.load_text_reads_as_its_warrior.Goals as goal

pub returns-in-Ok : goal.returns-in-Ok
returns-in-Ok c =
    let text : c.as_slice.result.now ≡ load_text c.args.rules.now.core c.args.warrior.now =
    c.as_slice.ensures.value ∙ c.in-Ok.ensures.ok ∙ ap (λ x. x ++ load_text c.args.rules.now.core c.args.warrior.now) c.new-text.ensures.items in
    read_back _ _ _ c.read_loadfile.ensures.meaning (ap (load_meaning c.args.rules.now) text ∙ means c.args.rules.now c.args.warrior.now c.core.ensures.rules c.code.ensures.warrior c.requires)
