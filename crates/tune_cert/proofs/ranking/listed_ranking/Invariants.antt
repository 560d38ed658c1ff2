use Rattle.std.proofs.Common.{◌≡◌}
use Rattle.tune_problem.specs.Problem.{problem_of}
use Rattle.tune_problem.specs.Exact.{ranking_below}
use Rattle.tune_cert.proofs.ranking.listed_ranking.Given as goal

-- the ranking is that of the settings before this one
abbrev pub invariant-loop-vector : goal.invariant-loop-vector
invariant-loop-vector l = l.ranking ≡ ranking_below (problem_of l.fn.inputs) l.fn.aim l.fn.rows l.vector
