-- The lines of a fight text, each read from the front of bytes. A reader gives a value and the
-- bytes after it.
use Rattle.std.specs.Prelude.{ℕ, ◌+◌, Bool, ◌==◌, bytes_eq, length, take, drop, position, if◌then◌else◌, List, [], ◌∷◌, codes, Option, Some, None, option_and_then}
use Rattle.std.specs.Option.{option_map}
use Rattle.std.specs.Str.{byte}
use Rattle.rc_instr.specs.Rules.{RulesView, rules_view}
use Rattle.rc_instr.specs.LoadReaders.{Reader, gives, ◌>>=◌}
use Rattle.mars_core.specs.declared.side.Side.{Side}
use Rattle.mars_core.specs.declared.side.Side.TheVariants.{Candidate, Opponent}
use Rattle.rc_instr.specs.Decimal.{padded_decimal}

-- What comes before and after the first byte that is `b`.
unfoldable pub cut_at : ℕ → Reader (List ℕ)
cut_at b bytes = option_map (λ at. (take at bytes, drop (at + 1) bytes)) (position (λ x. x == b) bytes)

-- The number of 1 to 9 digits before the first byte that is `b`, and the bytes after that byte.
unfoldable pub number_before : ℕ → Reader ℕ
number_before b bytes = option_and_then (λ p. option_map (λ n. (n, p.1)) (padded_decimal p.0)) (cut_at b bytes)

-- The bytes after a word, if they begin with it.
unfoldable pub after_word : List ℕ → List ℕ → Option (List ℕ)
after_word word bytes = if bytes_eq (take (length word) bytes) word then Some (drop (length word) bytes) else None

-- Five decimals, with single spaces between them and a line feed at the end.
unfoldable pub raw_rules : Reader RulesView
raw_rules = do
  core ← number_before (byte " ")
  cycles ← number_before (byte " ")
  tasks ← number_before (byte " ")
  most ← number_before (byte " ")
  distance ← number_before (byte "\n")
  gives (rules_view core cycles tasks most distance)

-- The line `rules M C P L D`.
unfoldable pub rules_line : Reader RulesView
rules_line bytes = option_and_then raw_rules (after_word (codes "rules ") bytes)

-- The candidate moves first if its line was read, else the opponent if its line was read.
abbrev pub mover_or : Option (List ℕ) → Option (List ℕ) → Option (Side × List ℕ)
mover_or (Some rest) other = Some (Candidate, rest)
mover_or None (Some rest) = Some (Opponent, rest)
mover_or None None = None

-- `c` if the candidate moves first, `o` if the opponent does, and a line feed.
unfoldable pub mover_line : Reader Side
mover_line bytes = mover_or (after_word (codes "c\n") bytes) (after_word (codes "o\n") bytes)

-- A position, a space, and who moves first.
abbrev pub position_and_mover : Reader (ℕ × Side)
position_and_mover = do
  position ← number_before (byte " ")
  mover ← mover_line
  gives (position, mover)

-- The line `fight POSITION FIRST`.
unfoldable pub fight_line : Reader (ℕ × Side)
fight_line bytes = option_and_then position_and_mover (after_word (codes "fight ") bytes)

-- Nothing and `rest`, if a line `opponent` was read here, or else the `later` cut.
abbrev pub parted_or : Option (List ℕ) → Option (List ℕ × List ℕ) → Option (List ℕ × List ℕ)
parted_or (Some rest) later = Some ([], rest)
parted_or None later = later

-- What comes before and after the first line `opponent`. `begins` says whether a line begins at the
-- first byte.
abbrev pub parted : Bool → List ℕ → Option (List ℕ × List ℕ)
parted begins [] = None
parted begins (c ∷ cs) =
    parted_or (if begins then after_word (codes "opponent\n") (c ∷ cs) else None)
    (option_map (λ p. (c ∷ p.0, p.1)) (parted (c == byte "\n") cs))
