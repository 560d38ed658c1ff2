-- The limit of a text.
use Rattle.std.specs.Prelude.{ℕ}

-- The most bytes of a text.
abbrev pub MOST_BYTES : ℕ
MOST_BYTES = 65536
