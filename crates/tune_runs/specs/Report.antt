-- The report of a tuning: what was found, and how many of the fights were played.
use Rattle.std.specs.Prelude.{ℕ, ℤ, ◌+◌, ◌*◌, ◌<◌, nat_lt, if◌then◌else◌, List, [], ◌∷◌, ◌++◌, length, map, slice_get, codes, Option, Some, None}
use Rattle.std.specs.Fmt.{decimal, signed_decimal}
use Rattle.std.specs.Option.{option_map}
use Rattle.rc_expand.specs.Names.{Table}
use Rattle.tune_template.specs.Instances.{constants_of}
use Rattle.tune_problem.specs.Inputs.{InputsView, settings_of}
use Rattle.tune_problem.specs.Problem.{problem_of}
use Rattle.tune_problem.specs.Optimum.{greatest_of, candidates_of}
use Rattle.tune_problem.specs.Ranking.{first_of}
use Rattle.tune_problem.specs.declared.aim.Aim.{Aim}
use Rattle.tune_problem.specs.declared.watcher.Best.{Best}
use Rattle.tune_search.specs.declared.findings.Findings.{Findings}

-- A setting with its total, and each constant with its value.
pub record NamedSetting : Type 0 where
  pub setting : Best
  pub constants : Table

-- What a report says.
pub record Report : Type 0 where
  pub vectors : ℕ
  pub candidates : ℕ
  -- the best setting, or None if no candidate reaches the floor
  pub best : Option NamedSetting
  pub floor : ℕ
  -- the most that a total can be
  pub most : ℕ
  -- the fights that were played, and all fights of all candidates
  pub fights : ℕ
  pub all_fights : ℕ
  -- the settings of the ranking that have a line
  pub ranking : List NamedSetting

-- `WORD N`, and a line feed. The word ends with a space.
unfoldable pub number_line : List ℕ → ℕ → List ℕ
number_line word n = word ++ decimal n ++ codes "\n"

-- `WORD PART of WHOLE`, and a line feed. The word ends with a space.
unfoldable pub of_line : List ℕ → ℕ → ℕ → List ℕ
of_line word part whole = word ++ decimal part ++ codes " of " ++ decimal whole ++ codes "\n"

-- For example ` STEP=-3`, with the space before it.
unfoldable pub constant_text : List ℕ → ℤ → List ℕ
constant_text name value = codes " " ++ name ++ codes "=" ++ signed_decimal value

abbrev pub constants_text : Table → List ℕ
constants_text [] = []
constants_text (c ∷ cs) = constant_text c.0 c.1 ++ constants_text cs

-- The constants, or ` -` if there are none.
abbrev pub constants_or_none : Table → List ℕ
constants_or_none [] = codes " -"
constants_or_none (c ∷ cs) = constants_text (c ∷ cs)

-- For example `constants STEP=-3 GAP=4`, or `constants -`.
unfoldable pub constants_line : Table → List ℕ
constants_line cs = codes "constants" ++ constants_or_none cs ++ codes "\n"

-- The lines of a report without a best setting, since no candidate reaches the floor.
unfoldable pub none_lines : (floor most : ℕ) → List ℕ
none_lines floor most = codes "best -\n" ++ codes "constants -\n" ++ of_line (codes "total below ") floor most

-- The lines of the best setting, or of none.
unfoldable pub best_lines : (floor most : ℕ) → Option NamedSetting → List ℕ
best_lines floor most None = none_lines floor most
best_lines floor most (Some s) =
    number_line (codes "best ") s.setting.vector
    ++ constants_line s.constants
    ++ of_line (codes "total ") s.setting.total most

-- `rank I setting W total T NAME=value ..`, with nothing after T if there are no constants.
unfoldable pub rank_line : (rank : ℕ) → NamedSetting → List ℕ
rank_line rank s =
    codes "rank " ++ decimal rank ++ codes " setting " ++ decimal s.setting.vector ++ codes " total " ++ decimal s.setting.total
    ++ constants_text s.constants ++ codes "\n"

-- The lines of a ranking, whose first setting has this rank.
abbrev pub rank_lines : (rank : ℕ) → List NamedSetting → List ℕ
rank_lines rank [] = []
rank_lines rank (s ∷ more) = rank_line rank s ++ rank_lines (rank + 1) more

-- The six lines of a report, and those of the ranking.
unfoldable pub report_text : Report → List ℕ
report_text r =
    number_line (codes "vectors ") r.vectors
    ++ number_line (codes "candidates ") r.candidates
    ++ best_lines r.floor r.most r.best
    ++ of_line (codes "fights ") r.fights r.all_fights
    ++ rank_lines 1 r.ranking

-- The constants with these values, or none if there are no values.
abbrev pub constants_with : InputsView → Option (List ℤ) → Table
constants_with i None = []
constants_with i (Some values) = constants_of i.template.ranges.names values

-- The setting with the values that it gives the constants.
abbrev pub named_setting : InputsView → Best → NamedSetting
named_setting i x = record { setting = x; constants = constants_with i (slice_get (settings_of i) x.vector) }

-- The setting is one of the part's.
abbrev pub IsSettingOf : InputsView → Best → Type 0
IsSettingOf i x = x.vector < length (settings_of i)

-- The settings that have a line: those of the ranking, if more than one is asked for.
abbrev pub named_ranking : InputsView → Option ℕ → List Best → List NamedSetting
named_ranking i None ranking = []
named_ranking i (Some keep) ranking = if nat_lt 1 keep then map (named_setting i) ranking else []

-- The report of what a search for an aim found.
abbrev pub report_for : InputsView → Aim → Findings → Report
report_for i aim f = record {
  vectors = (problem_of i).count;
  candidates = candidates_of (problem_of i);
  best = option_map (named_setting i) (first_of f.ranking);
  floor = aim.floor;
  most = greatest_of (problem_of i);
  fights = f.fights;
  all_fights = candidates_of (problem_of i) * length i.schedule;
  ranking = named_ranking i (Some aim.keep) f.ranking;
}
