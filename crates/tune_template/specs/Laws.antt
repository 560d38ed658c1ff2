-- What the ranges of a template are, in terms of its lines.
use Rattle.std.specs.Prelude.{◌≡◌, ℕ, ◌≤◌, Bool, true, ◌&&◌, not, List, [], ◌∷◌, length, map, All}
use Rattle.std.specs.List.{filter}
use Rattle.rc_text.specs.NameClasses.{class_of}
use Rattle.rc_text.specs.declared.class.NameClass.TheVariants.{Free}
use Rattle.rc_expand.specs.Names.{is_among}
use Rattle.tune_template.specs.Limits.{MOST_CONSTANTS}
use Rattle.tune_template.specs.Lines.{lines_of, words_after_tune, is_range_line}
use Rattle.tune_template.specs.Ranges.{Ranges}

-- The first of some words, or an empty one if there are none.
abbrev pub first_word : List (List ℕ) → List ℕ
first_word [] = []
first_word (w ∷ ws) = w

-- The name on a range line: the first word after `;@tune`.
abbrev pub name_on : List ℕ → List ℕ
name_on line = first_word (words_after_tune line)

-- No name occurs twice.
abbrev pub are_distinct : List (List ℕ) → Bool
are_distinct [] = true
are_distinct (n ∷ ns) = not (is_among ns n) && are_distinct ns

-- One constant for each range line, in the order of the lines; each name is free, no two are the
-- same, and there are at most `MOST_CONSTANTS`.
pub record AreOfLines (text : List ℕ) (r : Ranges) : Type 0 where
  pub names : r.names ≡ map name_on (filter is_range_line (lines_of text))
  pub free : All (λ name. class_of name ≡ Free) r.names
  pub distinct : are_distinct r.names ≡ true
  pub few : length r.names ≤ MOST_CONSTANTS
