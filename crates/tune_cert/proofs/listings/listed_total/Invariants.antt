use Rattle.std.proofs.Common.{◌≡◌, ◌≤◌, ◌+◌, ◌*◌, drop}
use Rattle.mars_fight.specs.Limits.{MOST_WEIGHT}
use Rattle.tune_problem.specs.Problem.{problem_of}
use Rattle.tune_problem.specs.Valid.{listed_total}
use Rattle.tune_cert.proofs.listings.listed_total.Given as goal

-- the scores so far, and those of the rest
abbrev pub invariant-loop-index : goal.invariant-loop-index
invariant-loop-index l = record {
  sum : l.total + listed_total (problem_of l.inputs) (drop l.index-index l.listed) ≡ listed_total (problem_of l.inputs) l.listed;
  small : l.total ≤ 255 * MOST_WEIGHT * l.index-index;
}
