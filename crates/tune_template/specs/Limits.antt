-- The limits of a template.
use Rattle.std.specs.Prelude.{ℕ}

-- The most constants of a template.
abbrev pub MOST_CONSTANTS : ℕ
MOST_CONSTANTS = 8

-- The most settings of a template.
abbrev pub MOST_SETTINGS : ℕ
MOST_SETTINGS = 1000000
