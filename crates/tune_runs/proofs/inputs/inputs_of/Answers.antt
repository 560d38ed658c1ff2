use Rattle.std.proofs.Common.{rules, ◌≡◌, true, length, map, arith, Ok, refl, sym, ◌∙◌, ap, subst}
use Rattle.std.specs.Prelude.{nat_le}
use Rattle.std.proofs.lemmas.List.{length-map}
use borrow.Author.Tests.{le-leb}
use Rattle.rc_instr.proofs.Chains.{ok_of}
use Rattle.mars_fight.specs.Schedule.{schedule_of}
use Rattle.tune_template.specs.Instances.{setting_count, template_of}
use Rattle.tune_problem.specs.Limits.{MOST_OPPONENTS}
use Rattle.tune_problem.specs.Inputs.{InputsView, with_part}
use Rattle.tune_problem.specs.Parts.{IsPart}
use Rattle.tune_runs.specs.Runs.{template_fault}
use Rattle.tune_runs.specs.Given.{texts_given}
use Rattle.tune_runs.proofs.Meaning.{means}
use Rattle.tune_runs.proofs.inputs.inputs_of.Goals as goal

pub returns-in-Some : goal.returns-in-Some
returns-in-Some c =
    let t = texts_given c.args.given.now in
    let i = c.in-Some.inputs in
    let template = c.in_ok-template.template in
    let made : InputsView = record { template = template; opponents = c.in_ok-warriors.warriors.items; schedule = c.in_ok-schedule.schedule; rules = t.rules; part = t.part } in
    let same : i ≡ made = c.in-Some.ensures ∙ ap (λ x. with_part x t.part) c.new.ensures in
    let part : IsPart i.part (setting_count i.template) = search rules in
    let count : length (map (λ o. o.items) c.args.given.now.opponents.now) ≡ length c.args.given.now.opponents.now = length-map c.args.given.now.opponents.now (λ o. o.items) in
    let few : nat_le (length t.opponents) MOST_OPPONENTS ≡ true = le-leb (length t.opponents) MOST_OPPONENTS (omega (arith, count, c.if-given-gt-MOST_OPPONENTS.false)) in
    let schedule : schedule_of t.rules (length t.opponents) t.schedule ≡ Ok c.in_ok-schedule.schedule = rw count (search rules) in
    means t made (record {
      few = few;
      template = ok_of template_fault (template_of t.template) template c.in_ok-template.ensures;
      opponents = c.in_ok-warriors.ensures.warriors;
      schedule = schedule;
      parted = subst (λ (x : InputsView). IsPart x.part (setting_count x.template)) same part;
      rules = refl;
      part = refl;
    }) ∙ ap (λ x. Ok x) (sym same)
