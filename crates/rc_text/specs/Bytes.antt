-- Classes of bytes, words in letters of any case, and the value of decimal digits.
use Rattle.std.specs.Prelude.{ℕ, Bool, ◌||◌, ◌==◌, ◌+◌, ◌*◌, ◌-◌, List, take, map, length, fold}
use Rattle.std.specs.Char.{is_ascii_digit, is_ascii_alphabetic, to_ascii_lowercase}
use Rattle.std.specs.Str.{byte, bytes_eq}

abbrev pub LINE_FEED : ℕ
LINE_FEED = 10

abbrev pub SEMICOLON : ℕ
SEMICOLON = 59

-- Space, tab and carriage return (the 1994 draft, but for the carriage return).
abbrev pub is_blank : ℕ → Bool
is_blank b = b == 32 || (b == 9 || b == 13)

-- A name begins with a letter or an underscore (the 1994 draft).
abbrev pub begins_name : ℕ → Bool
begins_name b = is_ascii_alphabetic b || b == byte "_"

-- A name goes on with letters, digits and underscores.
abbrev pub continues_name : ℕ → Bool
continues_name b = begins_name b || is_ascii_digit b

-- Equality but for the case of letters.
abbrev pub is_same_word : List ℕ → List ℕ → Bool
is_same_word a b = bytes_eq (map to_ascii_lowercase a) (map to_ascii_lowercase b)

-- The text begins with the word, in letters of any case.
abbrev pub begins_with_word : List ℕ → List ℕ → Bool
begins_with_word word text = is_same_word (take (length word) text) word

-- The value of decimal digits.
abbrev pub decimal_value : List ℕ → ℕ
decimal_value digits = fold (λ n b. n * 10 + (b - 48)) 0 digits
