-- What the words of a command line ask for.
use Rattle.std.specs.Prelude.{if◌then◌else◌, ◌≡◌, ℕ, ◌≤◌, ◌<◌, ◌^◌, ◌||◌, ◌&&◌, nat_le, Bool, false, Option, Some, None, List, [], ◌∷◌, ◌++◌, codes}
use Rattle.std.specs.Option.{unwrap_or}
use Rattle.std.specs.Str.{byte, bytes_eq}
use Rattle.std.specs.Fmt.{decimal}
use Rattle.tune_problem.specs.declared.aim.Aim.{Aim}
use Rattle.tune_problem.specs.declared.part.Part.{Part}
use Rattle.tune_problem.specs.Limits.{MOST_KEPT}
use Rattle.tune_cert.specs.declared.demand.Demand.{Demand}
use Rattle.tune_search.specs.Limits.{MOST_CAPACITY}
use Rattle.tune_search.specs.declared.method.Method.{Method}
use Rattle.tune_search.specs.declared.method.Method.TheVariants.{Dropping, PlayingAll}
use Rattle.command_words.specs.declared.method_options.MethodWords.{MethodWords}
use Rattle.command_words.specs.declared.command_line.Request.{Request}
use Rattle.command_words.specs.declared.command_line.Request.TheVariants.{Fight, Duel, Asm, Settings, Tune, Check}

-- No word, or `fight` alone, asks for the fight on standard input. Words are given as their bytes.
abbrev pub AsksForFight : List (List ℕ) → Type 0
AsksForFight [] = Unit {0}
AsksForFight (word ∷ []) = word ≡ codes "fight"
AsksForFight (word ∷ next ∷ more) = ⊥

-- The command that the words name: the first of them; `fight` if there is none, or if it is `--`.
abbrev pub command_of : List (List ℕ) → List ℕ
command_of [] = codes "fight"
command_of (word ∷ more) = if bytes_eq word (codes "--") then codes "fight" else word

abbrev pub is_command : List ℕ → Bool
is_command word =
    bytes_eq word (codes "fight") || (bytes_eq word (codes "asm") || (bytes_eq word (codes "settings")
    || (bytes_eq word (codes "tune") || bytes_eq word (codes "check"))))

-- The flag is among the words before `--`.
abbrev pub is_given : (flag : List ℕ) → List (List ℕ) → Bool
is_given flag [] = false
is_given flag (word ∷ words) = if bytes_eq word (codes "--") then false else (bytes_eq word flag || is_given flag words)

-- The command of a request.
abbrev pub command_word : Request → List ℕ
command_word Fight = codes "fight"
command_word (Duel words) = codes "fight"
command_word (Asm words) = codes "asm"
command_word (Settings file) = codes "settings"
command_word (Tune words method demand) = codes "tune"
command_word (Check words share demand) = codes "check"

-- The number of `--keep`, or None if it is not given. `clap` refuses one that is not 1 to
-- `MOST_KEPT`.
abbrev pub kept_asked : Option ℕ → Option ℕ
kept_asked None = None
kept_asked (Some keep) = if nat_le 1 keep && nat_le keep MOST_KEPT then Some keep else None

-- The aim of a tuning with this demand: one setting and the floor 0, unless they are given. It is
-- an aim whatever the demand is, since `tune_for_run` takes no other. If `keep` is within its
-- limits, it is `aim_of` of `tune_runs`.
abbrev pub aim_meant : Demand → Aim
aim_meant demand = record { keep = unwrap_or (kept_asked demand.keep) 1; floor = unwrap_or demand.floor 0 }

-- The capacity that is given, which `clap` keeps within its limits, or 4096.
abbrev pub capacity_meant : Option ℕ → ℕ
capacity_meant None = 4096
capacity_meant (Some capacity) = if nat_le 1 capacity && nat_le capacity MOST_CAPACITY then capacity else 4096

-- How a tuning with these words searches.
abbrev pub method_meant : MethodWords → Method
method_meant words = if words.all then PlayingAll else Dropping (capacity_meant words.cache)

-- The word for part I of K is `I/K`.
abbrev pub part_word : Part → List ℕ
part_word p = decimal p.number ++ byte "/" ∷ decimal p.parts

-- Parts are counted from 1, with numbers of 32 bits.
pub record IsCounted (p : Part) : Type 0 where
  pub some : 1 ≤ p.number
  pub within : p.number ≤ p.parts
  pub small : p.parts < 2 ^ 32
