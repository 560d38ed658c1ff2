use Rattle.std.proofs.Common.{◌≤◌, arith, length}
use Rattle.tune_problem.specs.Problem.{problem_of}
use Rattle.tune_problem.specs.Optimum.{greatest_of}
use Rattle.tune_problem.proofs.Scores.{inputs_problem}
use Rattle.tune_cert.specs.Steps.{listed_most}
use Rattle.tune_cert.proofs.ListedCaps.{row_most, few_rise}
use Rattle.tune_cert.proofs.listings.listed_cap.Goals as goal

pub listed_most-most-requires : goal.listed_most-most-requires
listed_most-most-requires c =
    let p = problem_of c.args.inputs.now in
    let few : length c.args.listed.now ≤ p.fights = few_rise p (inputs_problem c.args.inputs.now) c.args.listed.now c.requires.rising c.requires.fights in
    record { few = omega (arith, few, c.greatest_total-greatest.ensures.few) }

pub listed_total-requires : goal.listed_total-requires
listed_total-requires c =
    let p = problem_of c.args.inputs.now in
    let few : length c.args.listed.now ≤ p.fights = few_rise p (inputs_problem c.args.inputs.now) c.args.listed.now c.requires.rising c.requires.fights in
    record { few = omega (arith, few, c.greatest_total-greatest.ensures.few) }

pub overflow_sub-result : goal.overflow_sub-result
overflow_sub-result c =
    let p = problem_of c.args.inputs.now in
    let most : listed_most p c.args.listed.now ≤ greatest_of p = row_most p (inputs_problem c.args.inputs.now) c.args.listed.now c.requires.rising c.requires.fights in
    omega (arith, most, c.greatest_total-greatest.ensures.greatest, c.listed_most-most.ensures.sum)

pub overflow_add-result : goal.overflow_add-result
overflow_add-result c =
    let p = problem_of c.args.inputs.now in
    let few : length c.args.listed.now ≤ p.fights = few_rise p (inputs_problem c.args.inputs.now) c.args.listed.now c.requires.rising c.requires.fights in
    omega (arith, few, c.greatest_total-greatest.ensures.few, c.greatest_total-greatest.ensures.small, c.listed_total.ensures.small)
