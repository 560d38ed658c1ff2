-- What contracts of private functions see while the ranges are being read.
use Rattle.std.specs.Prelude.{◌≡◌, ◌≤◌, ◌<◌, ℕ, map, length, All}
use Rattle.tune_template.specs.declared.range.RangesSoFar.{RangesSoFar}
use Rattle.tune_template.specs.declared.span.Span.{Span}
use Rattle.tune_template.specs.Limits.{MOST_CONSTANTS, MOST_SETTINGS}
use Rattle.tune_template.specs.Ranges.{Ranges, ranges, vector_count}

-- The ranges that were read so far.
abbrev pub seen_ranges : RangesSoFar → Ranges
seen_ranges r = ranges (map (λ n. n.items) r.names.items) r.spans.items

-- The span is not empty, and its start is one of the values.
pub record HasValues (s : Span) : Type 0 where
  pub some : 0 < s.count
  pub start : s.start < s.count

-- As many names as spans, at most `MOST_CONSTANTS`, and `count` settings, at most `MOST_SETTINGS`;
-- and each span has its values.
pub record AreCounted (r : Ranges) (count : ℕ) : Type 0 where
  pub equal : length r.names ≡ length r.spans
  pub few : length r.names ≤ MOST_CONSTANTS
  pub vectors : vector_count r.spans ≡ count
  pub small : count ≤ MOST_SETTINGS
  pub values : All HasValues r.spans
