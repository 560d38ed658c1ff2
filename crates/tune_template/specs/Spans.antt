-- The values of one constant.
use Rattle.std.specs.Prelude.{ℕ, Bool, zero, suc, ◌+◌, ◌*◌, ◌/◌, ◌%◌, ◌==◌, ◌||◌, not, ℤ, pos, ◌+ℤ◌, ◌-ℤ◌, int_lt, List, [], ◌∷◌, Result, Ok, Err, if◌then◌else◌}
use Rattle.rc_asm.specs.Instructions.{natural}
use Rattle.tune_template.specs.declared.span.Span.{Span}
use Rattle.tune_template.specs.declared.fault.TemplateKind.{TemplateKind}
use Rattle.tune_template.specs.declared.fault.TemplateKind.TheVariants.{EmptyRange, StartOutside}

-- START is not one of LOW, LOW + STEP, .. up to HIGH.
abbrev pub is_outside : (low high : ℤ) → ℕ → ℤ → Bool
is_outside low high step start = int_lt start low || (int_lt high start || not (natural (start -ℤ low) % step == 0))

-- The values LOW, LOW + STEP, .. up to HIGH, how many they are, and the index of START.
unfoldable pub span_of : (low high : ℤ) → ℕ → ℤ → Result Span TemplateKind
span_of low high step start =
    if int_lt high low then Err EmptyRange else
    if is_outside low high step start then Err StartOutside else
    Ok (record { low = low; step = step; count = natural (high -ℤ low) / step + 1; start = natural (start -ℤ low) / step })

-- The value at index k.
abbrev pub span_value : Span → ℕ → ℤ
span_value s k = s.low +ℤ pos (k * s.step)

-- The n values from index k on.
abbrev pub values_from : Span → ℕ → ℕ → List ℤ
values_from s k zero = []
values_from s k (suc n) = span_value s k ∷ values_from s (suc k) n

-- All values, rising.
abbrev pub values_of : Span → List ℤ
values_of s = values_from s 0 s.count
