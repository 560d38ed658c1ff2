-- The limits of a tuning, beside those of its template, of its schedule and of the search.
use Rattle.std.specs.Prelude.{ℕ}

-- The most opponents of a tuning.
abbrev pub MOST_OPPONENTS : ℕ
MOST_OPPONENTS = 64

-- The most settings that are kept of a ranking.
abbrev pub MOST_KEPT : ℕ
MOST_KEPT = 1000
