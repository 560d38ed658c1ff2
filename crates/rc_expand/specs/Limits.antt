-- The limits of an expansion.
use Rattle.std.specs.Prelude.{ℕ}

-- The most unrolled lines and copies of blocks, counted together.
abbrev pub MOST_LINES : ℕ
MOST_LINES = 4096

-- The most tokens of a line, or of a count, after replacement.
abbrev pub MOST_TOKENS : ℕ
MOST_TOKENS = 4096

-- The most EQU names replaced in a line, or in a count.
abbrev pub MOST_REPLACEMENTS : ℕ
MOST_REPLACEMENTS = 4096

-- The greatest count of a FOR.
abbrev pub MOST_COPIES : ℕ
MOST_COPIES = 4096

-- How deep FOR blocks may be nested.
abbrev pub DEEPEST_BLOCK : ℕ
DEEPEST_BLOCK = 8

-- How deep EQU names may be nested.
abbrev pub DEEPEST_EQU : ℕ
DEEPEST_EQU = 16

-- The most counters joined to a name.
abbrev pub MOST_JOINED : ℕ
MOST_JOINED = 8
