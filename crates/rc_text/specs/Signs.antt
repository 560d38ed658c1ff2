-- The signs of Redcode, by their bytes (the 1994 draft; the signs of two bytes, `!`, `:` and `&`
-- are from pMARS).
use Rattle.std.specs.Prelude.{ℕ, ◌&&◌, ◌==◌, Option, Some, None, if◌then◌else◌}
use Rattle.std.specs.Str.{byte}
use Rattle.rc_text.specs.declared.token.Sign.{Sign}
use Rattle.rc_text.specs.declared.token.Sign.TheVariants.{Dot, Comma, Colon, Ampersand, Hash, Dollar, At, OpenBrace, CloseBrace, Open, Close, Plus, Minus, Star, Slash, Percent, Bang, Less, Greater, LessEqual, GreaterEqual, Equal, NotEqual, And, Or}

-- The signs of two bytes: <= >= == != && ||.
abbrev pub long_sign : ℕ → ℕ → Option Sign
long_sign a b =
    if a == byte "<" && b == byte "=" then Some LessEqual else
    if a == byte ">" && b == byte "=" then Some GreaterEqual else
    if a == byte "=" && b == byte "=" then Some Equal else
    if a == byte "!" && b == byte "=" then Some NotEqual else
    if a == byte "&" && b == byte "&" then Some And else
    if a == byte "|" && b == byte "|" then Some Or else
    None

-- The signs of one byte: . , : & # $ @ { } ( ) + - * / % ! < >.
abbrev pub short_sign : ℕ → Option Sign
short_sign a =
    if a == byte "." then Some Dot else
    if a == byte "," then Some Comma else
    if a == byte ":" then Some Colon else
    if a == byte "&" then Some Ampersand else
    if a == byte "#" then Some Hash else
    if a == byte "$" then Some Dollar else
    if a == byte "@" then Some At else
    if a == byte "{" then Some OpenBrace else
    if a == byte "}" then Some CloseBrace else
    if a == byte "(" then Some Open else
    if a == byte ")" then Some Close else
    if a == byte "+" then Some Plus else
    if a == byte "-" then Some Minus else
    if a == byte "*" then Some Star else
    if a == byte "/" then Some Slash else
    if a == byte "%" then Some Percent else
    if a == byte "!" then Some Bang else
    if a == byte "<" then Some Less else
    if a == byte ">" then Some Greater else
    None
