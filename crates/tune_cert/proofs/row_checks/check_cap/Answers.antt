use Rattle.std.proofs.Common.{◌∙◌, sym}
use Rattle.tune_problem.specs.Problem.{problem_of}
use Rattle.tune_cert.proofs.RowChecks.{points_fights}
use Rattle.tune_cert.proofs.Reasons.{low_by, cap_falls, cap_refused, cap_wrong, cap_fine, cap_high, cap_contends}
use Rattle.tune_cert.proofs.row_checks.check_cap.Goals as goal

pub returns-then-not-is_rising-clause-reason : goal.returns-then-not-is_rising-clause-reason
returns-then-not-is_rising-clause-reason g c = cap_falls _ _ _ _ _ (sym c.if-not-is_rising.ensures)

pub returns-in_default-clause-reason : goal.returns-in_default-clause-reason
returns-in_default-clause-reason g c =
    cap_refused _ _ _ _ _ (sym c.if-not-is_rising.ensures) (sym c.in_ok-warrior.ensures.warrior ∙ c.in_default.is)

pub returns-then-not-have_points-clause-reason : goal.returns-then-not-have_points-clause-reason
returns-then-not-have_points-clause-reason g c =
    cap_wrong _ _ _ _ _ _ (sym c.if-not-is_rising.ensures) (sym c.in_ok-warrior.ensures.warrior ∙ c.in-Some.is) (sym c.if-not-have_points.ensures.points)

pub listed_cap-cap-requires-clause-fights : goal.listed_cap-cap-requires-clause-fights
listed_cap-cap-requires-clause-fights g c =
    points_fights (problem_of c.args.claim.now.inputs.now) c.in-Some.warrior c.args.listed.now (sym c.if-not-have_points.ensures.points)

pub returns-then-not-is_best_or_below-clause-reason : goal.returns-then-not-is_best_or_below-clause-reason
returns-then-not-is_best_or_below-clause-reason g c =
    cap_high _ _ _ _ _ _ (sym c.if-not-is_rising.ensures) (sym c.in_ok-warrior.ensures.warrior ∙ c.in-Some.is) (sym c.if-not-have_points.ensures.points)
    (low_by (problem_of c.args.claim.now.inputs.now) c.args.claim.now.statement.now c.args.vector c.args.listed.now _ _ c.listed_cap-cap.ensures c.if-not-is_best_or_below.ensures)

pub returns-then-not-is_exact-clause-reason : goal.returns-then-not-is_exact-clause-reason
returns-then-not-is_exact-clause-reason g c =
    cap_contends _ _ _ _ _ _ (sym c.if-not-is_rising.ensures) (sym c.in_ok-warrior.ensures.warrior ∙ c.in-Some.is) (sym c.if-not-have_points.ensures.points)
    (low_by (problem_of c.args.claim.now.inputs.now) c.args.claim.now.statement.now c.args.vector c.args.listed.now _ _ c.listed_cap-cap.ensures c.if-not-is_best_or_below.ensures) (sym c.if-not-is_exact.ensures)

pub returns-clause-reason : goal.returns-clause-reason
returns-clause-reason g c =
    cap_fine _ _ _ _ _ _ (sym c.if-not-is_rising.ensures) (sym c.in_ok-warrior.ensures.warrior ∙ c.in-Some.is) (sym c.if-not-have_points.ensures.points)
    (low_by (problem_of c.args.claim.now.inputs.now) c.args.claim.now.statement.now c.args.vector c.args.listed.now _ _ c.listed_cap-cap.ensures c.if-not-is_best_or_below.ensures) (sym c.if-not-is_exact.ensures)
