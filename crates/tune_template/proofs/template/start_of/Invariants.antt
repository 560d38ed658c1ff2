use Rattle.std.proofs.Common.{◌≡◌, ◌+◌, length}
use Rattle.std.specs.Prelude.{All}
use Rattle.tune_template.specs.Ranges.{vector_count}
use Rattle.tune_template.specs.Vectors.{start_index}
use Rattle.tune_template.specs.Steps.{HasValues}
use Rattle.tune_template.proofs.template.start_of.Given as goal

abbrev pub decreases-loop-span : goal.decreases-loop-span
decreases-loop-span l = length l.rest

-- the index so far, and the spans that are left
abbrev pub invariant-loop-span : goal.invariant-loop-span
invariant-loop-span l = (start_index l.spans ≡ l.index + start_index l.rest) × (vector_count l.rest ≡ l.size) × All HasValues l.rest
