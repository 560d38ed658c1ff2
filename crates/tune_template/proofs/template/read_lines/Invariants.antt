use Rattle.std.proofs.Common.{◌≡◌, ◌≤◌, ◌+◌, ℕ, List, [], length}
use Rattle.std.specs.Prelude.{Option, Some, None, option_map, Result, Ok}
use Rattle.tune_template.specs.declared.fault.TemplateFault.{TemplateFault}
use Rattle.tune_template.specs.Lines.{lines_of}
use Rattle.tune_template.specs.Ranges.{Ranges, ranges, ranges_from}
use Rattle.tune_template.specs.Steps.{seen_ranges, AreCounted}
use Rattle.tune_template.proofs.template.read_lines.Given as goal

-- the ranges so far, and those of the rest of the text, if a rest is left
abbrev pub ranges_after : ℕ → Ranges → Option (List ℕ) → Result Ranges TemplateFault
ranges_after n r None = Ok r
ranges_after n r (Some text) = ranges_from n r (lines_of text)

-- falls with each line, since even an empty rest is a line
abbrev pub rest_size : Option (List ℕ) → ℕ
rest_size None = 0
rest_size (Some text) = length text + 1

abbrev pub decreases-loop-rest : goal.decreases-loop-rest
decreases-loop-rest l = rest_size (option_map (λ t. t.now) l.rest)

-- the ranges so far, and the lines that are left
abbrev pub invariant-loop-rest : goal.invariant-loop-rest
invariant-loop-rest l =
    (ranges_from 1 (ranges [] []) (lines_of l.bytes) ≡ ranges_after l.number (seen_ranges l.reading) (option_map (λ t. t.now) l.rest))
    × AreCounted (seen_ranges l.reading) l.reading.count × (l.number + rest_size (option_map (λ t. t.now) l.rest) ≤ length l.bytes + 2)
