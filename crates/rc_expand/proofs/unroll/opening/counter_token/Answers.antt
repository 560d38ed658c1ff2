use Rattle.std.proofs.Common.{◌≡◌, sym, ◌∙◌, ap, arith, length, suc, ◌-◌}
use Rattle.std.specs.Prelude.{Err, Some, ok_or}
use Rattle.rc_instr.specs.Results.{mapped}
use Rattle.rc_expand.specs.Results.{at_line}
use Rattle.rc_expand.specs.Read.Lines.{plain_token}
use Rattle.rc_expand.specs.Unroll.Openings.{counter_fault_kind, counter_of}
use Rattle.rc_expand.proofs.Unrolling.CountSteps.{counter_at}
use Rattle.rc_expand.proofs.unroll.opening.counter_token.Goals as goal

pub returns-in-Some-clause-token : goal.returns-in-Some-clause-token
returns-in-Some-clause-token c =
    let s = c.args.source.now in
    let n : suc (length c.as_slice-labels.result.now - 1) ≡ length c.as_slice-labels.result.now = omega arith in
    let last = ap (counter_of s c.args.raw.now.number) (sym c.as_slice-labels.ensures)
    ∙ (counter_at s c.args.raw.now.number c.as_slice-labels.result.now (length c.as_slice-labels.result.now - 1) c.index-labels-labels.result n c.index-labels-labels.is
    ∙ ap (λ l. mapped Some (ok_or (plain_token s l) (at_line c.args.raw.now.number (counter_fault_kind l)))) (sym c.as_slice-label.ensures)) in
    last ∙ ap (λ o. mapped Some (ok_or o (at_line c.args.raw.now.number (counter_fault_kind c.as_slice-label.result.now)))) (sym c.in-Some.ensures.token)

pub returns-in-None-clause-token : goal.returns-in-None-clause-token
returns-in-None-clause-token c =
    let s = c.args.source.now in
    let n : suc (length c.as_slice-labels.result.now - 1) ≡ length c.as_slice-labels.result.now = omega arith in
    let last = ap (counter_of s c.args.raw.now.number) (sym c.as_slice-labels.ensures)
    ∙ (counter_at s c.args.raw.now.number c.as_slice-labels.result.now (length c.as_slice-labels.result.now - 1) c.index-labels-labels.result n c.index-labels-labels.is
    ∙ ap (λ l. mapped Some (ok_or (plain_token s l) (at_line c.args.raw.now.number (counter_fault_kind l)))) (sym c.as_slice-label.ensures)) in
    λ h. last ∙ (ap (λ o. mapped Some (ok_or o (at_line c.args.raw.now.number (counter_fault_kind c.as_slice-label.result.now)))) (sym c.in-None.ensures.token) ∙ ap Err (sym c.counter_fault.ensures))
