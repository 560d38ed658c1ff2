-- What the FOR of a block says: its counter, the labels before the counter, and the number of
-- copies (FOR is from pMARS).
use Rattle.std.specs.Prelude.{ℕ, max, Bool, true, false, ◌&&◌, nat_le, ℤ, pos, negsuc, List, [], ◌∷◌, Option, Some, None, if◌then◌else◌, option_and_then, option_map, ok_or, Result, Ok, Err}
use Rattle.std.specs.Result.{result_ok}
use Rattle.rc_text.specs.declared.token.Kind.{Kind}
use Rattle.rc_text.specs.declared.token.Kind.TheVariants.{Number}
use Rattle.rc_text.specs.declared.token.Token.{Token}
use Rattle.rc_text.specs.Symbols.{name_of, symbols_of}
use Rattle.rc_text.specs.Reading.{evaluation_of}
use Rattle.rc_expand.specs.declared.read.raw_line.RawLine.{RawLine}
use Rattle.rc_expand.specs.declared.fault.ExpandFault.{ExpandFault}
use Rattle.rc_expand.specs.declared.fault.ExpandKind.{ExpandKind}
use Rattle.rc_expand.specs.declared.fault.ExpandKind.TheVariants.{DuplicateName, BadDirective, CountRefused}
use Rattle.rc_expand.specs.declared.unroll.opening.Opening.{Opening}
use Rattle.rc_expand.specs.Limits.{MOST_COPIES}
use Rattle.rc_instr.specs.Results.{mapped, ◌>>=◌}
use Rattle.rc_expand.specs.Results.{at_line}
use Rattle.rc_expand.specs.Names.{entry_of, given_names, is_taken}
use Rattle.rc_expand.specs.Contexts.{ContextView}
use Rattle.rc_expand.specs.Read.Lines.{is_colon, is_unjoined, plain_token}
use Rattle.rc_expand.specs.Equs.{EquView}
use Rattle.rc_expand.specs.Replace.{replaced_tokens}

-- What a FOR says.
pub record OpeningView : Type 0 where
  pub counter : Option (List ℕ)
  pub earlier : List (List Token)
  pub count : ℕ

-- All labels but the last, which is the counter.
abbrev pub earlier_of : List (List Token) → List (List Token)
earlier_of [] = []
earlier_of (l ∷ []) = []
earlier_of (l ∷ m ∷ ls) = l ∷ earlier_of (m ∷ ls)

-- The view of an opening. Its earlier labels are those of its FOR `opens`.
abbrev pub seen_opening : (opens : RawLine) → Opening → OpeningView
seen_opening opens o = record { counter = option_map (λ b. b.now) o.counter; earlier = earlier_of opens.labels; count = o.count }

-- The count of a value: 0 if that is below 1, None if it is above the limit.
abbrev pub limited_count : ℤ → Option ℕ
limited_count (negsuc n) = Some 0
limited_count (pos n) = if nat_le n MOST_COPIES then Some n else None

abbrev pub is_number_kind : Kind → Bool
is_number_kind (Number n) = true
is_number_kind _ = false

-- A number to which no counter is joined.
abbrev pub is_plain_number : Token → Bool
is_plain_number t = is_number_kind t.kind && is_unjoined t.joined

-- A label that became a number in a copy, with or without its colon: it was the name of the counter
-- of an enclosing block, written without `&`.
abbrev pub is_enclosing_counter : List Token → Bool
is_enclosing_counter (t ∷ []) = is_plain_number t
is_enclosing_counter (t ∷ u ∷ []) = is_plain_number t && is_colon u
is_enclosing_counter _ = false

-- Why a last label that is not a plain name is refused.
abbrev pub counter_fault_kind : List Token → ExpandKind
counter_fault_kind l = if is_enclosing_counter l then DuplicateName else BadDirective

-- A counter must not be an EQU name. The fault is reported at the later of the FOR and the EQU
-- line.
abbrev pub unless_equ : (line : ℕ) → List ℕ → Option EquView → Result (Option (List ℕ)) ExpandFault
unless_equ line name None = Ok (Some name)
unless_equ line name (Some e) = Err (at_line (max line e.line) DuplicateName)

-- The counter is the last label, if there are any, and must be a plain name.
abbrev pub counter_of : (source : List ℕ) (line : ℕ) → List (List Token) → Result (Option Token) ExpandFault
counter_of source line [] = Ok None
counter_of source line (l ∷ []) = mapped Some (ok_or (plain_token source l) (at_line line (counter_fault_kind l)))
counter_of source line (l ∷ m ∷ ls) = counter_of source line (m ∷ ls)

module _ (context : ContextView) where
  -- The number of copies: the value of the tokens after FOR, with their EQU names replaced.
  unfoldable pub count_of : (line : ℕ) → List Token → Result ℕ ExpandFault
  count_of line ts = do
    tokens ← replaced_tokens context line [] ts
    ok_or (option_and_then limited_count (result_ok (evaluation_of (given_names context.given.constants context.given.rules) (symbols_of context.source tokens)))) (at_line line CountRefused)

  -- The name of a counter, which must be neither a constant nor a predefined name nor an EQU name.
  abbrev pub counter_name : (line : ℕ) → Option Token → Result (Option (List ℕ)) ExpandFault
  counter_name line None = Ok None
  counter_name line (Some t) =
      if is_taken context.given (name_of context.source t) then Err (at_line line DuplicateName) else
      unless_equ line (name_of context.source t) (entry_of context.equs (name_of context.source t))

  -- What a FOR with this counter says, unless its count is refused.
  abbrev pub opening_with_counter : RawLine → Option (List ℕ) → Result OpeningView ExpandFault
  opening_with_counter opens name = mapped (λ n. record { counter = name; earlier = earlier_of opens.labels; count = n }) (count_of opens.number opens.rest)

  -- What a FOR says, or its fault: that of the counter comes before that of the count. A FOR is
  -- spoiled if a ninth counter would be joined to a name in it; that is `BadDirective`.
  unfoldable pub opening : RawLine → Result OpeningView ExpandFault
  opening opens =
      if opens.spoiled then Err (at_line opens.number BadDirective) else
      counter_of context.source opens.number opens.labels >>= counter_name opens.number >>= opening_with_counter opens
