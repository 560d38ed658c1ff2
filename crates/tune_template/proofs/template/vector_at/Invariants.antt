use Rattle.std.proofs.Common.{◌≡◌, ◌≤◌, ◌<◌, ◌+◌, ◌++◌, length}
use Rattle.std.specs.Prelude.{All, slice_get, option_map}
use Rattle.tune_template.specs.Limits.{MOST_CONSTANTS}
use Rattle.tune_template.specs.Ranges.{vector_count}
use Rattle.tune_template.specs.Vectors.{vectors_of}
use Rattle.tune_template.specs.Steps.{HasValues}
use Rattle.tune_template.proofs.template.vector_at.Given as goal

abbrev pub decreases-loop-span : goal.decreases-loop-span
decreases-loop-span l = length l.rest

-- the values so far, and the spans that are left
abbrev pub invariant-loop-span : goal.invariant-loop-span
invariant-loop-span l =
    (slice_get (vectors_of l.spans) l.index ≡ option_map (λ w. l.vector ++ w) (slice_get (vectors_of l.rest) l.place))
    × (vector_count l.rest ≡ l.size) × (l.place < l.size) × (length l.vector + length l.rest ≤ MOST_CONSTANTS) × All HasValues l.rest
