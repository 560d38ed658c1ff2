use Rattle.std.proofs.Common.{◌∙◌, ◌<◌, ◌^◌, ap, subst, sym, refl, true, false, Option, None, Some, IfSome}
use Rattle.tune_problem.specs.declared.aim.Aim.{Aim}
use Rattle.tune_cert.specs.Judgement.{aim_for}
use Rattle.tune_problem.specs.Parts.{part}
use Rattle.tune_problem.specs.Problem.{problem_of}
use Rattle.tune_cert.specs.declared.verdict.Judgement.TheVariants.{Accepted}
use Rattle.tune_cert.proofs.Demands.{judged_chain, ranking_is}
use Rattle.tune_cert.proofs.ListedSettings.{of_settings}
use Rattle.tune_cert.proofs.ValidShares.{count_right}
use Rattle.tune_cert.proofs.checker.check_statement.Goals as goal

pub returns-then-not-is_version_of-clause-judgement : goal.returns-then-not-is_version_of-clause-judgement
returns-then-not-is_version_of-clause-judgement g c =
    c.rejected.ensures ∙ sym (judged_chain (problem_of c.args.inputs.now) c.args.demand (part c.args.share.number c.args.share.shares) c.args.statement _ c.aim_for-aim.ensures.aim
    false _ _ _ c.if-not-is_version_of.ensures refl refl refl)

pub returns-then-not-has_row_count-clause-judgement : goal.returns-then-not-has_row_count-clause-judgement
returns-then-not-has_row_count-clause-judgement g c =
    c.rejected-then-not-has_row_count.ensures
    ∙ sym (judged_chain (problem_of c.args.inputs.now) c.args.demand (part c.args.share.number c.args.share.shares) c.args.statement _ c.aim_for-aim.ensures.aim
    true false _ _ c.if-not-is_version_of.ensures c.if-not-has_row_count.ensures refl refl)

pub returns-then-not-is_answered-clause-judgement : goal.returns-then-not-is_answered-clause-judgement
returns-then-not-is_answered-clause-judgement g c =
    c.rejected-then-not-is_answered.ensures
    ∙ sym (judged_chain (problem_of c.args.inputs.now) c.args.demand (part c.args.share.number c.args.share.shares) c.args.statement _ c.aim_for-aim.ensures.aim
    true true false _ c.if-not-is_version_of.ensures c.if-not-has_row_count.ensures c.if-not-is_answered.ensures refl)

pub returns-in-Some-clause-judgement : goal.returns-in-Some-clause-judgement
returns-in-Some-clause-judgement g c =
    c.rejected-in-Some.ensures
    ∙ sym (judged_chain (problem_of c.args.inputs.now) c.args.demand (part c.args.share.number c.args.share.shares) c.args.statement _ c.aim_for-aim.ensures.aim
    true true true (Some (c.in-Some.index, c.in-Some.reason)) c.if-not-is_version_of.ensures c.if-not-has_row_count.ensures c.if-not-is_answered.ensures (sym c.in_ok-index.ensures.wrong ∙ c.in-Some.is))

pub returns-clause-judgement : goal.returns-clause-judgement
returns-clause-judgement g c =
    ap (Accepted c.args.statement.answer) (ranking_is (problem_of c.args.inputs.now) c.args.demand (part c.args.share.number c.args.share.shares) c.args.statement _ c.aim_for-aim.ensures.aim c.in_ok-ranking.ranking c.in_ok-ranking.ensures)
    ∙ sym (judged_chain (problem_of c.args.inputs.now) c.args.demand (part c.args.share.number c.args.share.shares) c.args.statement _ c.aim_for-aim.ensures.aim
    true true true None c.if-not-is_version_of.ensures c.if-not-has_row_count.ensures c.if-not-is_answered.ensures (sym c.in_ok-index.ensures.wrong ∙ c.in-None.is))

pub returns-clause-settings : goal.returns-clause-settings
returns-clause-settings g c =
    let p = problem_of c.args.inputs.now in
    let counted = count_right p c.args.statement (sym c.if-not-has_row_count.ensures) in
    of_settings p c.args.statement.rows (aim_for c.args.demand c.args.statement.answer) c.in_ok-ranking.ranking
    (subst (λ (o : Option Aim). IfSome o (λ (a : Aim). a.keep < 2 ^ 32)) c.aim_for-aim.ensures.aim c.aim_for-aim.ensures.few)
    counted.1
    (ranking_is p c.args.demand (part c.args.share.number c.args.share.shares) c.args.statement _ c.aim_for-aim.ensures.aim c.in_ok-ranking.ranking c.in_ok-ranking.ensures)
