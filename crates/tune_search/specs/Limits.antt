-- The limit of a search.
use Rattle.std.specs.Prelude.{ℕ}

-- The most settings that the cache of a search may hold.
abbrev pub MOST_CAPACITY : ℕ
MOST_CAPACITY = 65536
