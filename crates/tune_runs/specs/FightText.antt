-- A fight text: the lines `rules M C P L D`, `fight POSITION FIRST` and `candidate`, a load file,
-- the line `opponent`, a load file. Words are separated by one space, and a line ends with a line
-- feed.
use Rattle.std.specs.Prelude.{ℕ, ◌+◌, true, ◌==◌, List, codes, count_by, Result, Ok}
use Rattle.std.specs.Option.{ok_or}
use Rattle.std.specs.Str.{byte}
use Rattle.rc_instr.specs.Rules.{RulesView}
use Rattle.rc_instr.specs.Results.{◌>>=◌}
use Rattle.mars_core.specs.declared.side.Side.{Side}
use Rattle.tune_runs.specs.FightLines.{rules_line, fight_line, after_word, parted}

-- What a fight text says.
pub record FightWords : Type 0 where
  pub rules : RulesView
  pub position : ℕ
  pub first : Side
  -- The two load files.
  pub candidate : List ℕ
  pub opponent : List ℕ

abbrev pub line_feeds : List ℕ → ℕ
line_feeds text = count_by (λ b. b == byte "\n") text

-- What a fight text says, or the number of its first malformed line, from 1. If there is no line
-- `opponent`, that is the line after the last line feed.
unfoldable pub fight_words : List ℕ → Result FightWords ℕ
fight_words text = do
  rules ← ok_or (rules_line text) 1
  fight ← ok_or (fight_line rules.1) 2
  files ← ok_or (after_word (codes "candidate\n") fight.1) 3
  parts ← ok_or (parted true files) (line_feeds text + 1)
  Ok (record { rules = rules.0; position = fight.0.0; first = fight.0.1; candidate = parts.0; opponent = parts.1 })
