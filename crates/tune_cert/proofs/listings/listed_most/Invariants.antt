use Rattle.std.proofs.Common.{◌≡◌, ◌≤◌, ◌+◌, ◌*◌, drop}
use Rattle.mars_fight.specs.Limits.{MOST_WEIGHT}
use Rattle.tune_problem.specs.Problem.{problem_of}
use Rattle.tune_cert.specs.Steps.{listed_most}
use Rattle.tune_cert.proofs.listings.listed_most.Given as goal

-- the most of the fights so far, and that of the rest
abbrev pub invariant-loop-index : goal.invariant-loop-index
invariant-loop-index l = record {
  sum : l.most + listed_most (problem_of l.inputs) (drop l.index-index l.listed) ≡ listed_most (problem_of l.inputs) l.listed;
  small : l.most ≤ 3 * MOST_WEIGHT * l.index-index;
}
