use Rattle.std.proofs.Common.{◌≡◌, Ok, subst}
use Rattle.rc_expand.specs.Names.{table_in}
use Rattle.rc_asm.specs.Names.{names_of}
use Rattle.rc_asm.specs.Assembly.{warrior_of_lines}
use Rattle.rc_asm.proofs.Outcomes.{same_names, lines_make}
use Rattle.rc_asm.proofs.assembler.assemble_lines.Goals as goal

pub returns-in-Ok-clause-outcome : goal.returns-in-Ok-clause-outcome
returns-in-Ok-clause-outcome c =
    let s = c.args.source.now in
    let t = table_in c.args.constants.now in
    let lines = c.args.lines.now in
    let same = same_names s t c.args.rules.now lines c.in_ok-labels.labels c.in_ok-labels.ensures in
    lines_make s (names_of s t c.args.rules.now lines) lines c.in-Ok.warrior (subst (λ n. warrior_of_lines s n lines ≡ Ok c.in-Ok.warrior) same c.in-Ok.ensures.outcome)
