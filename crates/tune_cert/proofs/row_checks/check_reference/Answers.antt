use Rattle.std.proofs.Common.{◌<◌, ◌∙◌, sym, arith, length}
use Rattle.std.proofs.lemmas.Option.{slice_get_within}
use Rattle.tune_problem.specs.Problem.{problem_of}
use Rattle.tune_problem.specs.declared.cert.Row.TheVariants.{Cap}
use Rattle.tune_cert.proofs.Reasons.{lower_by, to_itself, to_another, to_falling, to_no_fights, to_fine, to_contending, to_high}
use Rattle.tune_cert.proofs.row_checks.check_reference.Goals as goal

pub returns-then-other-vector-clause-reason : goal.returns-then-other-vector-clause-reason
returns-then-other-vector-clause-reason c =
    to_itself (problem_of c.args.claim.now.inputs.now) c.args.claim.now.statement.now c.args.claim.now.aim c.args.vector c.args.other c.in-Some.listed.now c.in-Some.ensures.some c.if-other-vector.true

pub share_warrior-requires-clause-other : goal.share_warrior-requires-clause-other
share_warrior-requires-clause-other c =
    let within : c.args.other < length c.args.claim.now.statement.now.rows = slice_get_within c.args.claim.now.statement.now.rows c.args.other (Cap c.in-Some.listed.now) c.in-Some.ensures.some in
    omega (arith, within, c.args.claim.now.counted)

pub returns-then-not-shared-clause-reason : goal.returns-then-not-shared-clause-reason
returns-then-not-shared-clause-reason c =
    to_another (problem_of c.args.claim.now.inputs.now) c.args.claim.now.statement.now c.args.claim.now.aim c.args.vector c.args.other c.in-Some.listed.now c.in-Some.ensures.some (sym c.in_ok-shared.ensures.shared ∙ c.if-not-shared.true)

pub returns-then-not-is_rising-clause-reason : goal.returns-then-not-is_rising-clause-reason
returns-then-not-is_rising-clause-reason c =
    to_falling (problem_of c.args.claim.now.inputs.now) c.args.claim.now.statement.now c.args.claim.now.aim c.args.vector c.args.other c.in-Some.listed.now c.in-Some.ensures.some (sym c.if-not-is_rising.ensures)

pub returns-then-not-are_fights-clause-reason : goal.returns-then-not-are_fights-clause-reason
returns-then-not-are_fights-clause-reason c =
    to_no_fights (problem_of c.args.claim.now.inputs.now) c.args.claim.now.statement.now c.args.claim.now.aim c.args.vector c.args.other c.in-Some.listed.now c.in-Some.ensures.some (sym c.if-not-are_fights.ensures)

pub returns-then-not-stays_below-clause-reason : goal.returns-then-not-stays_below-clause-reason
returns-then-not-stays_below-clause-reason c =
    let p = problem_of c.args.claim.now.inputs.now in
    to_high p c.args.claim.now.statement.now c.args.claim.now.aim c.args.vector c.args.other c.in-Some.listed.now c.in-Some.ensures.some c.if-other-vector.false (sym c.in_ok-shared.ensures.shared ∙ c.if-not-shared.false)
    (sym c.if-not-is_rising.ensures) (sym c.if-not-are_fights.ensures) (lower_by p c.args.claim.now.statement.now c.args.vector c.in-Some.listed.now _ _ c.listed_cap-cap.ensures c.if-not-stays_below.ensures)

pub returns-then-not-is_exact-clause-reason : goal.returns-then-not-is_exact-clause-reason
returns-then-not-is_exact-clause-reason c =
    let p = problem_of c.args.claim.now.inputs.now in
    to_contending p c.args.claim.now.statement.now c.args.claim.now.aim c.args.vector c.args.other c.in-Some.listed.now c.in-Some.ensures.some c.if-other-vector.false (sym c.in_ok-shared.ensures.shared ∙ c.if-not-shared.false)
    (sym c.if-not-is_rising.ensures) (sym c.if-not-are_fights.ensures) (lower_by p c.args.claim.now.statement.now c.args.vector c.in-Some.listed.now _ _ c.listed_cap-cap.ensures c.if-not-stays_below.ensures) (sym c.if-not-is_exact.ensures)

pub returns-clause-reason : goal.returns-clause-reason
returns-clause-reason c =
    let p = problem_of c.args.claim.now.inputs.now in
    to_fine p c.args.claim.now.statement.now c.args.claim.now.aim c.args.vector c.args.other c.in-Some.listed.now c.in-Some.ensures.some c.if-other-vector.false (sym c.in_ok-shared.ensures.shared ∙ c.if-not-shared.false)
    (sym c.if-not-is_rising.ensures) (sym c.if-not-are_fights.ensures) (lower_by p c.args.claim.now.statement.now c.args.vector c.in-Some.listed.now _ _ c.listed_cap-cap.ensures c.if-not-stays_below.ensures) (sym c.if-not-is_exact.ensures)
