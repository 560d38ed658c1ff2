-- Decimals of 1 to 9 digits.
use Rattle.std.specs.Prelude.{ℕ, nat_lt, ◌&&◌, if◌then◌else◌, Option, Some, None, List, length}
use Rattle.std.specs.Str.{all_ascii_digits}
use Rattle.rc_instr.specs.Digits.{read_on}

-- The number that 1 to 9 digits spell. Leading zeros are allowed.
unfoldable pub padded_decimal : List ℕ → Option ℕ
padded_decimal digits =
    if nat_lt 0 (length digits) && nat_lt (length digits) 10 && all_ascii_digits digits then Some (read_on 0 digits) else None
