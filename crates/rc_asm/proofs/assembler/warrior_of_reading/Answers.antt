use Rattle.std.proofs.Common.{sym, ◌∙◌, ap, Err}
use Rattle.rc_instr.specs.Results.{with_fault}
use Rattle.rc_instr.specs.Checks.{warrior_of}
use Rattle.rc_instr.proofs.CheckSteps.{warrior_passes}
use Rattle.rc_asm.specs.declared.fault.AsmKind.TheVariants.{Warrior}
use Rattle.rc_asm.specs.Faults.{at_line}
use Rattle.rc_asm.specs.Lines.{start_value}
use Rattle.rc_asm.proofs.Outcomes.{same_start}
use Rattle.rc_asm.proofs.assembler.warrior_of_reading.Goals as goal

pub returns-in-Ok-clause-outcome : goal.returns-in-Ok-clause-outcome
returns-in-Ok-clause-outcome c =
    let r = c.args.rules.now in
    let ok = c.in-Ok.ensures.ok in
    let same = same_start r c.args.reading.code.items (start_value c.args.reading.starts) c.start_number.result c.length.ensures.rules c.start_number.ensures in
    ap (with_fault (λ e. at_line 0 (Warrior e))) (sym same ∙ ap (warrior_of r) (sym ok.0) ∙ warrior_passes r c.in-Ok.warrior ok.1 ok.2)

pub returns-in-Err-clause-outcome : goal.returns-in-Err-clause-outcome
returns-in-Err-clause-outcome c = λ _.
    let r = c.args.rules.now in
    let same = same_start r c.args.reading.code.items (start_value c.args.reading.starts) c.start_number.result c.length.ensures.rules c.start_number.ensures in
    ap (with_fault (λ e. at_line 0 (Warrior e))) (sym same ∙ c.in-Err.ensures.refused.1) ∙ ap Err (sym c.of_warrior.ensures)
