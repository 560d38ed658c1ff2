-- The rows of a search that plays all fights.
use Rattle.std.specs.Prelude.{ℕ, List, map, Option, Some, None}
use Rattle.std.specs.List.{range_with_len}
use Rattle.rc_instr.specs.Warrior.{WarriorView}
use Rattle.tune_problem.specs.Problem.{Problem}
use Rattle.tune_problem.specs.Optimum.{all_fights}
use Rattle.tune_problem.specs.declared.cert.Row.{Row}
use Rattle.tune_problem.specs.declared.cert.Row.TheVariants.{Refused, Cap}

-- Fights of a warrior, each with its points.
abbrev pub played : Problem → WarriorView → List ℕ → List (ℕ × ℕ)
played p w fights = map (λ k. (k, p.points w k)) fights

-- The row of a setting that has this warrior, if any.
abbrev pub row_with : Problem → Option WarriorView → Row
row_with p None = Refused
row_with p (Some w) = Cap (played p w (all_fights p))

-- The row of a setting: refused if it does not assemble, else all fights of its warrior in order.
abbrev pub row_of : Problem → ℕ → Row
row_of p v = row_with p (p.warrior v)

-- The rows of all settings.
abbrev pub rows_of : Problem → List Row
rows_of p = map (row_of p) (range_with_len 0 p.count)
