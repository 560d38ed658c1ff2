-- Symbols: tokens without their spans. Expressions are lists of symbols.
use Rattle.std.specs.Prelude.{ℕ, ◌+◌, ◌≤◌, List, [], ◌∷◌, ◌++◌, map, length, slice_range, nat_lt, if◌then◌else◌, flat_map}
use Rattle.std.specs.Int.Digits.{digits_of}
use Rattle.rc_text.specs.declared.token.Sign.{Sign}
use Rattle.rc_text.specs.declared.token.Kind.{Kind}
use Rattle.rc_text.specs.declared.token.Kind.TheVariants.{Name, Number, Sign as SignOf, Assert, LineEnd}
use Rattle.rc_text.specs.declared.token.Token.{Token}

-- A decimal by its value, a name by its bytes, a sign, or what no expression has: `;assert` or a
-- line end.
pub data Symbol : Type 0 where
  Decimal : (n : ℕ) → Symbol
  Identifier : (name : List ℕ) → Symbol
  Mark : (s : Sign) → Symbol
  Foreign : Symbol

-- A counter as it is joined to a name: in decimal, with at least two digits.
abbrev pub counter_text : ℕ → List ℕ
counter_text n = if nat_lt n 10 then 48 ∷ ((48 + n) ∷ []) else map (λ d. 48 + d) (digits_of 10 n)

-- The bytes of a token, then the counters joined to it.
abbrev pub name_of : List ℕ → Token → List ℕ
name_of source t = slice_range source t.lo t.hi ++ flat_map counter_text t.joined

abbrev pub symbol_of_kind : Kind → List ℕ → Symbol
symbol_of_kind Name name = Identifier name
symbol_of_kind (Number n) name = Decimal n
symbol_of_kind (SignOf s) name = Mark s
symbol_of_kind Assert name = Foreign
symbol_of_kind LineEnd name = Foreign

abbrev pub symbol_of : List ℕ → Token → Symbol
symbol_of source t = symbol_of_kind t.kind (name_of source t)

abbrev pub symbols_of : List ℕ → List Token → List Symbol
symbols_of source tokens = map (symbol_of source) tokens

-- The span of the token lies in the source.
pub record LiesIn (source : List ℕ) (t : Token) : Type 0 where
  pub order : t.lo ≤ t.hi
  pub inside : t.hi ≤ length source
