-- Tables of names. Each name occurs once: adding one that is there changes nothing.
use Rattle.std.specs.Prelude.{◌≡◌, ℕ, List, [], ◌∷◌, ◌++◌, map, Option, Some, None, if◌then◌else◌, is_some, option_map, flat_map, slice_get}
use Rattle.std.specs.Global.{Vec}
use Rattle.rc_text.specs.declared.token.Token.{Token}
use Rattle.rc_text.specs.Symbols.{counter_text}
use Rattle.rc_expand.specs.Names.{entry_of}
use Rattle.rc_expand.specs.Equs.{Equs, equ_in}

-- Bytes, then the counters joined to them.
abbrev pub joined_name : List ℕ → List ℕ → List ℕ
joined_name bytes counters = bytes ++ flat_map counter_text counters

-- Adds an entry at the end, unless the name is there already.
abbrev pub with_name : {A : Type 0} → List (List ℕ × A) → List ℕ → A → List (List ℕ × A)
with_name table name value = if is_some (entry_of table name) then table else table ++ ((name, value) ∷ [])

-- The names of a table.
abbrev pub names_in : {A : Type 0} → List (List ℕ × A) → List (List ℕ)
names_in table = map (λ e. e.0) table

-- The value at an index of the table.
abbrev pub at_index : {A : Type 0} → List (List ℕ × A) → Option ℕ → Option A
at_index table None = None
at_index table (Some i) = option_map (λ e. e.1) (slice_get table i)

-- `indices` has for each token its index among the EQU names, or None.
abbrev pub AreIndices : List ℕ → Equs → List Token → List (Option ℕ) → Type 0
AreIndices source equs tokens indices = map (at_index equs) indices ≡ map (equ_in source equs) tokens

-- `links` has such indices for the tokens of every EQU name.
abbrev pub AreLinks : List ℕ → Equs → List (Vec (Option ℕ)) → Type 0
AreLinks source equs links = map (λ l. map (at_index equs) l.items) links ≡ map (λ e. map (equ_in source equs) e.1.tokens) equs
