-- The settings of a template, which the code calls vectors.
use Rattle.std.specs.Prelude.{ℕ, ◌+◌, ◌*◌, ℤ, List, [], ◌∷◌, map, flat_map}
use Rattle.tune_template.specs.Ranges.{vector_count}
use Rattle.tune_template.specs.declared.span.Span.{Span}
use Rattle.tune_template.specs.Spans.{values_of, span_value}

-- All lists of one value of each span, in lexicographic order: the first constant is slowest, and
-- values rise.
abbrev pub vectors_of : List Span → List (List ℤ)
vectors_of [] = [] ∷ []
vectors_of (s ∷ ss) = flat_map (λ x. map (λ v. x ∷ v) (vectors_of ss)) (values_of s)

-- The setting of the start values.
abbrev pub start_vector : List Span → List ℤ
start_vector ss = map (λ s. span_value s s.start) ss

-- The index of the setting of the start values.
abbrev pub start_index : List Span → ℕ
start_index [] = 0
start_index (s ∷ ss) = s.start * vector_count ss + start_index ss
