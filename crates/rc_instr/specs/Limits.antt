-- The limits of the rules.
use Rattle.std.specs.Prelude.{ℕ}

-- The fewest cells of a core.
abbrev pub LEAST_CORE : ℕ
LEAST_CORE = 8

-- The most cells of a core, whose addresses fit 16 bits.
abbrev pub MOST_CORE : ℕ
MOST_CORE = 65535

-- The most cycles of a fight.
abbrev pub MOST_CYCLES : ℕ
MOST_CYCLES = 1000000

-- The most tasks of a warrior that rules may allow.
abbrev pub MOST_TASKS : ℕ
MOST_TASKS = 8000

-- The most instructions of a warrior that rules may allow.
abbrev pub MOST_LENGTH : ℕ
MOST_LENGTH = 200
