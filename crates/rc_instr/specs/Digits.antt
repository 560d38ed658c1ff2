-- Decimal digits.
use Rattle.std.specs.Prelude.{◌≡◌, ℕ, ◌+◌, ◌-◌, ◌*◌, false, List, [], ◌∷◌, length, take_while}
use Rattle.std.specs.Char.{is_ascii_digit}

-- The text does not begin with a digit.
abbrev pub NoDigitFirst : List ℕ → Type 0
NoDigitFirst [] = Unit {0}
NoDigitFirst (c ∷ cs) = is_ascii_digit c ≡ false

-- How many digits are at the front.
abbrev pub digits_len : List ℕ → ℕ
digits_len bytes = length (take_while is_ascii_digit bytes)

-- The value of a decimal that begins with digits of the value `n` and goes on with these.
abbrev pub read_on : ℕ → List ℕ → ℕ
read_on n [] = n
read_on n (c ∷ cs) = read_on (n * 10 + (c - 48)) cs
