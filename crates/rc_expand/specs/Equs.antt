-- EQU names (EQU is from pMARS).
use Rattle.std.specs.Prelude.{ℕ, List, Option, None, if◌then◌else◌}
use Rattle.rc_text.specs.declared.token.Token.{Token}
use Rattle.rc_text.specs.Symbols.{name_of}
use Rattle.rc_expand.specs.Read.Lines.{is_name_token}
use Rattle.rc_expand.specs.Names.{entry_of}

-- The tokens of an EQU name, and the line that defines it.
pub record EquView : Type 0 where
  pub tokens : List Token
  pub line : ℕ

-- The EQU names with their tokens.
abbrev pub Equs : Type 0
Equs = List (List ℕ × EquView)

-- The EQU name with the spelling of the token, if there is one.
abbrev pub equ_in : (source : List ℕ) → Equs → Token → Option EquView
equ_in source equs t = if is_name_token t then entry_of equs (name_of source t) else None
