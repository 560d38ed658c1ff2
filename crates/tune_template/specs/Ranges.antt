-- The ranges of a template, line by line, or the first fault.
use Rattle.std.specs.Prelude.{◌≡◌, ℕ, ◌+◌, ◌*◌, nat_le, nat_lt, ◌==◌, ℤ, pos, neg_ℤ, List, [], ◌∷◌, ◌++◌, length, Option, Some, None, option_map, Result, Ok, Err, if◌then◌else◌}
use Rattle.std.specs.Option.{ok_or}
use Rattle.std.specs.Str.{byte}
use Rattle.rc_text.specs.NameClasses.{class_of}
use Rattle.rc_text.specs.declared.class.NameClass.{NameClass}
use Rattle.rc_text.specs.declared.class.NameClass.TheVariants.{NoName, Reserved, Predefined, Free}
use Rattle.rc_expand.specs.Names.{is_among}
use Rattle.rc_asm.specs.Limits.{MOST_BYTES}
use Rattle.rc_instr.specs.Decimal.{padded_decimal}
use Rattle.tune_template.specs.declared.span.Span.{Span}
use Rattle.tune_template.specs.declared.fault.TemplateKind.{TemplateKind}
use Rattle.tune_template.specs.declared.fault.TemplateKind.TheVariants.{BadLine, DuplicateName, ReservedName, TooManyConstants, TooManyVectors, TextTooLong}
use Rattle.tune_template.specs.declared.fault.TemplateFault.{TemplateFault}
use Rattle.rc_instr.specs.Results.{mapped, with_fault, ◌>>=◌, check}
use Rattle.tune_template.specs.Faults.{at_line}
use Rattle.tune_template.specs.Limits.{MOST_CONSTANTS, MOST_SETTINGS}
use Rattle.tune_template.specs.Lines.{lines_of, words_after_tune, is_range_line}
use Rattle.tune_template.specs.Spans.{span_of}

-- The constants and the spans of their values, in the order of the lines.
pub record Ranges : Type 0 where
  pub names : List (List ℕ)
  pub spans : List Span

abbrev pub ranges : List (List ℕ) → List Span → Ranges
ranges names spans = record { names = names; spans = spans }

-- The number of a word of 1 to 5 digits, at most 65535.
abbrev pub small_number : List ℕ → Option ℕ
small_number word = if nat_le (length word) 5 then at_most (padded_decimal word) else None
  where
    at_most : Option ℕ → Option ℕ
    at_most None = None
    at_most (Some n) = if nat_le n 65535 then Some n else None

-- A small number, with or without a minus before it.
abbrev pub signed_number : List ℕ → Option ℤ
signed_number [] = None
signed_number (b ∷ word) = if b == byte "-" then option_map (λ n. neg_ℤ (pos n)) (small_number word) else option_map pos (small_number (b ∷ word))

-- A small number that is a step: 1 to 65535.
abbrev pub step_number : List ℕ → Option ℕ
step_number word = above_zero (small_number word)
  where
    above_zero : Option ℕ → Option ℕ
    above_zero None = None
    above_zero (Some n) = if nat_lt 0 n then Some n else None

-- The number of settings of these spans.
abbrev pub vector_count : List Span → ℕ
vector_count [] = 1
vector_count (s ∷ ss) = s.count * vector_count ss

-- Checks `name`, of the given class, as the constant after `names`: it must be a name, not
-- reserved, not predefined, and not one of `names`.
abbrev pub name_checked : List (List ℕ) → NameClass → List ℕ → Result (Unit {0}) TemplateKind
name_checked names NoName name = Err BadLine
name_checked names Reserved name = Err ReservedName
name_checked names Predefined name = Err ReservedName
name_checked names Free name = if is_among names name then Err DuplicateName else Ok tt

-- The span of the next constant, from the five words of a range line. A faulty number is reported
-- first, then the name's fault, then the span's.
unfoldable pub span_of_words : List (List ℕ) → (name low high step start : List ℕ) → Result Span TemplateKind
span_of_words names name low high step start = do
  least ← ok_or (signed_number low) BadLine
  most ← ok_or (signed_number high) BadLine
  by ← ok_or (step_number step) BadLine
  first ← ok_or (signed_number start) BadLine
  _ ← name_checked names (class_of name) name
  span_of least most by first

-- The range of five words: NAME LOW HIGH STEP START.
unfoldable pub range_of_words : Ranges → List (List ℕ) → Result (List ℕ × Span) TemplateKind
range_of_words r (name ∷ low ∷ high ∷ step ∷ start ∷ []) = do
  span ← span_of_words r.names name low high step start
  Ok (name, span)
range_of_words r _ = Err BadLine

-- The range that a range line adds to those so far, or its first fault.
abbrev pub next_range : Ranges → List ℕ → Result (List ℕ × Span) TemplateKind
next_range r line = do
  _ ← check (nat_lt (length r.names) MOST_CONSTANTS) TooManyConstants
  next ← range_of_words r (words_after_tune line)
  _ ← check (nat_le (vector_count r.spans * next.1.count) MOST_SETTINGS) TooManyVectors
  Ok next

-- The ranges and one more.
abbrev pub with_range : Ranges → List ℕ × Span → Ranges
with_range r next = ranges (r.names ++ (next.0 ∷ [])) (r.spans ++ (next.1 ∷ []))

-- A range line adds its constant; any other line adds nothing.
abbrev pub line_added : ℕ → Ranges → List ℕ → Result Ranges TemplateFault
line_added n r line = if is_range_line line then mapped (with_range r) (with_fault (at_line n) (next_range r line)) else Ok r

-- The ranges `r`, then those of the lines, the first of which is line n of the template.
abbrev pub ranges_from : ℕ → Ranges → List (List ℕ) → Result Ranges TemplateFault
ranges_from n r [] = Ok r
ranges_from n r (line ∷ lines) = do
  more ← line_added n r line
  ranges_from (n + 1) more lines

-- The ranges of a text of at most `MOST_BYTES` bytes, or its first fault.
unfoldable pub ranges_of : List ℕ → Result Ranges TemplateFault
ranges_of text = do
  _ ← check (nat_le (length text) MOST_BYTES) (at_line 0 TextTooLong)
  ranges_from 1 (ranges [] []) (lines_of text)

-- The text is a template with these ranges.
abbrev pub HasRanges : List ℕ → Ranges → Type 0
HasRanges text r = ranges_of text ≡ Ok r
