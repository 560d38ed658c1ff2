-- A line in one copy of a block. The counter of the block becomes its number, or is joined to the
-- name before it by `&` (pMARS).
use Rattle.std.specs.Prelude.{◌≡◌, ℕ, drop, Bool, true, false, ◌&&◌, not, ◌+◌, ◌*◌, nat_le, nat_lt, List, [], ◌∷◌, ◌++◌, length, Option, Some, None, if◌then◌else◌, option_and_then, option_map}
use Rattle.std.specs.List.{list_all}
use Rattle.std.specs.Str.{bytes_eq}
use Rattle.rc_text.specs.declared.token.Kind.TheVariants.{Number}
use Rattle.rc_text.specs.declared.token.Token.{Token}
use Rattle.rc_text.specs.Symbols.{name_of}
use Rattle.rc_expand.specs.declared.read.raw_line.RawLine.{RawLine}
use Rattle.rc_expand.specs.declared.read.raw_line.RawWord.{RawWord}
use Rattle.rc_expand.specs.declared.read.raw_line.RawWord.TheVariants as word
use Rattle.rc_expand.specs.Limits.{MOST_JOINED}
use Rattle.rc_expand.specs.Read.Lines.{choose, is_name_token, is_ampersand, is_unjoined, has_modifier}

-- A copy of a block: the counter of the block, if it has one, and the counter's number.
pub record BlockCopyView : Type 0 where
  pub counter : Option (List ℕ)
  pub number : ℕ

-- A line in these copies is in a block if there are any.
abbrev pub is_in_block : List BlockCopyView → Bool
is_in_block [] = false
is_in_block (c ∷ cs) = true

-- The results of `f` for all items, or None if `f` gives None for one of them.
abbrev pub all_of : {A B : Type 0} → (A → Option B) → List A → Option (List B)
all_of f [] = Some []
all_of f (x ∷ xs) = option_and_then (λ y. option_map (λ ys. y ∷ ys) (all_of f xs)) (f x)

-- If a ninth counter would be joined to a name, the line is spoiled: its labels and what comes
-- after them are dropped.
abbrev pub or_spoiled : RawLine → Option (List (List Token)) → Option (List Token) → RawLine
or_spoiled raw (Some labels) (Some rest) = record raw { labels = labels; rest = rest }
or_spoiled raw _ _ = record raw { labels = []; rest = []; spoiled = true }

-- What a copy of a block with a counter puts in: `number`, in place of the name `counter` or joined
-- to the name before it.
pub record NumberingView : Type 0 where
  pub source : List ℕ
  pub counter : List ℕ
  pub number : ℕ

abbrev pub numbering_by : (source counter : List ℕ) (number : ℕ) → NumberingView
numbering_by source counter number = record { source = source; counter = counter; number = number }

module _ (numbering : NumberingView) where
  -- The token is a name, and spells the counter.
  abbrev pub is_counter : Token → Bool
  is_counter t = is_name_token t && bytes_eq (name_of numbering.source t) numbering.counter

  -- The counter's name becomes the number; a name that this copy `made` by joining stays a name,
  -- even if it spells the counter.
  abbrev pub with_number : (made : Bool) → Token → Token
  with_number made t = if not made && is_counter t then record t { kind = Number numbering.number } else t

  -- One more counter is joined to a name, unless `MOST_JOINED` are joined to it already.
  abbrev pub with_counter : Token → Option Token
  with_counter t = if nat_lt (length t.joined) MOST_JOINED then Some (record t { joined = t.joined ++ (numbering.number ∷ []) }) else None

  -- `t` is a name, and `&` and the counter come after it.
  abbrev pub joins : Token → List Token → Bool
  joins t (u ∷ v ∷ ts) = is_name_token t && (is_ampersand u && is_counter v)
  joins t _ = false

  -- The copy of `t` and the tokens after it; `made` says whether this copy has joined its number to
  -- `t` already.
  abbrev pub copied_from : (made : Bool) → Token → List Token → Option (List Token)
  copied_from made t [] = Some (with_number made t ∷ [])
  copied_from made t (u ∷ []) = option_map (λ r. with_number made t ∷ r) (copied_from false u [])
  copied_from made t (u ∷ v ∷ ts) =
      choose (joins t (u ∷ v ∷ ts)) (λ i. option_and_then (λ j. copied_from true j ts) (with_counter t))
      (λ i. option_map (λ r. with_number made t ∷ r) (copied_from false u (v ∷ ts)))

  -- Tokens in the copy, or None if a ninth counter would be joined to a name.
  abbrev pub copied_tokens : List Token → Option (List Token)
  copied_tokens [] = Some []
  copied_tokens (t ∷ ts) = copied_from false t ts

  -- With `Some (name, next)` the copy of the tokens from `at` on is the name, and then the copy of
  -- those from `next` on. With None a ninth counter would be joined to a name.
  abbrev pub BeginsCopy : List Token → (at : ℕ) → Option (Token × ℕ) → Type 0
  BeginsCopy ts at o =
      copied_tokens (drop at ts) ≡ option_and_then (λ p. option_map (λ r. p.0 ∷ r) (copied_tokens (drop p.1 ts))) o

  -- A modifier is not a name, even if it spells the counter: at the front of a line of code an
  -- opcode, a dot and a modifier stay as they are.
  abbrev pub copied_code : List Token → Option (List Token)
  copied_code (t ∷ u ∷ v ∷ ts) =
      choose (has_modifier numbering.source t u v) (λ i. option_map (λ r. t ∷ u ∷ v ∷ r) (copied_tokens ts)) (λ i. copied_tokens (t ∷ u ∷ v ∷ ts))
  copied_code ts = copied_tokens ts

  -- What comes after the labels, by the word of the line.
  abbrev pub copied_rest : RawWord → List Token → Option (List Token)
  copied_rest word.Code ts = copied_code ts
  copied_rest _ ts = copied_tokens ts

  -- A line in the copy.
  unfoldable pub copied_line : RawLine → RawLine
  copied_line raw = or_spoiled raw (all_of copied_tokens raw.labels) (copied_rest raw.word raw.rest)

module _ (source : List ℕ) where
  -- A line in one copy of a block; without a counter it stays as it is.
  abbrev pub line_in_copy : Option (List ℕ) → (number : ℕ) → RawLine → RawLine
  line_in_copy None number raw = raw
  line_in_copy (Some counter) number raw = copied_line (numbering_by source counter number) raw

  -- A line in copies, the outermost first.
  abbrev pub line_in : List BlockCopyView → RawLine → RawLine
  line_in [] raw = raw
  line_in (c ∷ cs) raw = line_in cs (line_in_copy c.counter c.number raw)

-- No ninth counter can be joined to one of the tokens, in however many copies: none is joined yet,
-- and each that is joined takes two tokens away.
abbrev pub is_short : List Token → Bool
is_short ts = nat_le (length ts) (2 * (MOST_JOINED + 1)) && list_all (λ t. is_unjoined t.joined) ts

-- The line is too short for a ninth counter to be joined to a name of it.
abbrev pub is_short_line : RawLine → Bool
is_short_line raw = list_all is_short raw.labels && is_short raw.rest
