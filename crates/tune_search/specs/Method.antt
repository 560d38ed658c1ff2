-- The two methods of a search: it drops settings and shares fights, or it plays all fights.
use Rattle.std.specs.Prelude.{ℕ, ◌≤◌}
use Rattle.tune_search.specs.Limits.{MOST_CAPACITY}
use Rattle.tune_search.specs.declared.method.Method.{Method}
use Rattle.tune_search.specs.declared.method.Method.TheVariants.{Dropping, PlayingAll}

-- The number of settings that a search remembers, so as to share their fights.
abbrev pub capacity_of : Method → ℕ
capacity_of (Dropping capacity) = capacity
capacity_of PlayingAll = 0

-- The capacity of a search that drops settings is 1 to `MOST_CAPACITY`.
abbrev pub HasCapacity : Method → Type 0
HasCapacity (Dropping capacity) = (1 ≤ capacity) × (capacity ≤ MOST_CAPACITY)
HasCapacity PlayingAll = Unit {0}
