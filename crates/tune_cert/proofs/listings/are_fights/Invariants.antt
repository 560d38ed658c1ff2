use Rattle.std.proofs.Common.{◌≡◌, drop}
use Rattle.tune_problem.specs.Problem.{problem_of}
use Rattle.tune_cert.specs.Checks.{are_fights}
use Rattle.tune_cert.proofs.listings.are_fights.Given as goal

-- all exist if the rest do
abbrev pub invariant-loop-index : goal.invariant-loop-index
invariant-loop-index l = are_fights (problem_of l.inputs) (drop l.index-index l.listed) ≡ are_fights (problem_of l.inputs) l.listed
