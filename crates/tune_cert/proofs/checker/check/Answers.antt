use Rattle.std.proofs.Common.{◌≡◌, ◌∙◌, ap, sym}
use Rattle.tables.specs.Records.{records_of}
use Rattle.tune_problem.specs.Parts.{whole}
use Rattle.tune_problem.specs.Problem.{problem_of}
use Rattle.tune_problem.specs.declared.part.Part.{Part}
use Rattle.tune_cert.specs.Judgement.{no_demand, judgement_of, judged}
use Rattle.tune_cert.specs.Shares.{share_part}
use Rattle.tune_cert.specs.declared.demand.Demand.{Demand}
use Rattle.tune_cert.proofs.PlainChecks.{judgement_is}
use Rattle.tune_cert.proofs.checker.check.Goals as goal

pub returns : goal.returns
returns c =
    let p = problem_of c.args.inputs.now in
    let records = records_of c.args.bytes.now in
    let share : share_part c.whole.result ≡ whole = λ i. record { number = c.whole.ensures.number i; parts = c.whole.ensures.shares i } in
    let demand : judgement_of p c.none-demand.result (share_part c.whole.result) records ≡ judgement_of p no_demand whole records =
    ap (λ (d : Demand). judgement_of p d (share_part c.whole.result) records) c.none-demand.ensures
    ∙ ap (λ (s : Part). judgement_of p no_demand s records) share in
    let verdict = judgement_is p whole records in
    let same = c.verdict_of.ensures _ (c.in_ok-judgement.ensures.judgement ∙ (demand ∙ verdict)) in
    record { verdict = verdict ∙ sym (ap judged same) }
