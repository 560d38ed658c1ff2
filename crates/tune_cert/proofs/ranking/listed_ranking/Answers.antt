use Rattle.std.proofs.Common.{◌∙◌}
use Rattle.tune_problem.specs.Problem.{problem_of}
use Rattle.tune_cert.proofs.ListedSteps.{no_settings, shown_next, unshown_next}
use Rattle.tune_cert.proofs.ranking.listed_ranking.Goals.{in-Some+in_ok-rank, in_default}
use Rattle.tune_cert.proofs.ranking.listed_ranking.Goals as goal

pub loop-vector-init : goal.loop-vector-init
loop-vector-init c = no_settings (problem_of c.args.inputs.now) c.args.aim c.args.rows.now _ c.new-ranking.ensures

pub loop-vector-preserved : goal.loop-vector-preserved
loop-vector-preserved c = elim c.match-total_at.branch [
  | in-Some+in_ok-rank w ↦
      w.ranking-is ∙ shown_next (problem_of c.args.inputs.now) c.args.aim c.args.rows.now c.loop-vector.vector w.in-Some.total c.total_at.result c.loop-vector.ranking w.rank.new.self
      c.loop-vector.invariant c.total_at.ensures w.in-Some.is w.in_ok-rank.ensures.ranked
  | in_default w ↦
      w.ranking-is ∙ unshown_next (problem_of c.args.inputs.now) c.args.aim c.args.rows.now c.loop-vector.vector c.total_at.result c.loop-vector.ranking
      c.loop-vector.invariant c.total_at.ensures w.in_default.is
]
