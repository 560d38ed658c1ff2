-- The ranking of the settings visited: each with its total, the greatest first, then the smaller
-- index.
use Rattle.std.specs.Prelude.{ℕ, ◌<◌, List}
use Rattle.tune_problem.specs.Problem.{Problem}
use Rattle.tune_problem.specs.Ranking.{IsRanking}
use Rattle.tune_problem.specs.declared.aim.Aim.{Aim}
use Rattle.tune_problem.specs.declared.watcher.Best.{Best}
use Rattle.tune_search.specs.Visits.{visits_before}

-- Setting v is among the first k visited.
abbrev pub VisitedBy : Problem → (k v : ℕ) → Type 0
VisitedBy p k v = visits_before p.start v < k

-- The ranking of the first k settings visited, cut to as many as the aim keeps.
abbrev pub IsRankingBy : Problem → Aim → (k : ℕ) → List Best → Type 0
IsRankingBy p aim k ranking = IsRanking p aim (VisitedBy p k) ranking
