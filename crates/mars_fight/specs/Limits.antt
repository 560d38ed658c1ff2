-- The limits of a schedule.
use Rattle.std.specs.Prelude.{ℕ, ◌*◌}

-- The most fights of a schedule.
abbrev pub MOST_FIGHTS : ℕ
MOST_FIGHTS = 10000

-- The greatest weight of a fight.
abbrev pub MOST_WEIGHT : ℕ
MOST_WEIGHT = 1000

-- The greatest total of a schedule: 3 points in every fight, each of the greatest weight.
abbrev pub MOST_TOTAL : ℕ
MOST_TOTAL = 3 * MOST_WEIGHT * MOST_FIGHTS
