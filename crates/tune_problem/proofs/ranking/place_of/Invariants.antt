use Rattle.std.proofs.Common.{◌≡◌, ◌++◌, take, drop}
use Rattle.tune_problem.specs.Ranking.{ranked}
use Rattle.tune_problem.proofs.ranking.place_of.Given as goal

-- the settings so far are not beaten
abbrev pub invariant-loop-at : goal.invariant-loop-at
invariant-loop-at l = ranked l.fn.best l.fn.ranking ≡ take l.at l.fn.ranking ++ ranked l.fn.best (drop l.at l.fn.ranking)
