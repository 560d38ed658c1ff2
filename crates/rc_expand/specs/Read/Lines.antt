-- Lines: labels, a word, and what comes after it (labels are from the 1994 draft, colons and names
-- joined by `&` from pMARS).
use Rattle.std.specs.Prelude.{ℕ, suc, Bool, true, false, ◌&&◌, ◌||◌, not, List, [], ◌∷◌, ◌++◌, Option, Some, None, if◌then◌else◌, option_and_then, Result, Ok, Err, codes, slice_range}
use Rattle.rc_text.specs.declared.token.Sign.TheVariants.{Ampersand, Colon, Dot}
use Rattle.rc_text.specs.declared.token.Kind.{Kind}
use Rattle.rc_text.specs.declared.token.Kind.TheVariants.{Name, Sign as SignOf, Assert}
use Rattle.rc_text.specs.declared.token.Token.{Token}
use Rattle.rc_text.specs.declared.class.NameClass.{NameClass}
use Rattle.rc_text.specs.declared.class.NameClass.TheVariants.{Reserved}
use Rattle.rc_text.specs.Bytes.{is_same_word}
use Rattle.rc_text.specs.NameClasses.{class_of, is_opcode_word}
use Rattle.rc_text.specs.Gaps.{is_line_end}
use Rattle.rc_expand.specs.declared.read.raw_line.RawLine.{RawLine}
use Rattle.rc_expand.specs.declared.read.raw_line.RawWord.{RawWord}
use Rattle.rc_expand.specs.declared.read.raw_line.RawWord.TheVariants as word
use Rattle.rc_expand.specs.declared.fault.ExpandFault.{ExpandFault}
use Rattle.rc_instr.specs.Results.{mapped}

-- Like `if`, but only the chosen branch is computed.
abbrev pub choose : {A : Type 0} → Bool → (Unit {0} → A) → (Unit {0} → A) → A
choose true f g = f tt
choose false f g = g tt

-- Kinds of tokens.
abbrev pub is_name_kind : Kind → Bool
is_name_kind Name = true
is_name_kind _ = false

abbrev pub is_name_token : Token → Bool
is_name_token t = is_name_kind t.kind

abbrev pub is_ampersand_kind : Kind → Bool
is_ampersand_kind (SignOf Ampersand) = true
is_ampersand_kind _ = false

abbrev pub is_ampersand : Token → Bool
is_ampersand t = is_ampersand_kind t.kind

abbrev pub is_colon_kind : Kind → Bool
is_colon_kind (SignOf Colon) = true
is_colon_kind _ = false

abbrev pub is_colon : Token → Bool
is_colon t = is_colon_kind t.kind

abbrev pub is_dot_kind : Kind → Bool
is_dot_kind (SignOf Dot) = true
is_dot_kind _ = false

abbrev pub is_dot : Token → Bool
is_dot t = is_dot_kind t.kind

-- Reserved: an opcode or a directive, in letters of any case.
abbrev pub is_reserved_class : NameClass → Bool
is_reserved_class Reserved = true
is_reserved_class _ = false

abbrev pub is_unjoined : List ℕ → Bool
is_unjoined [] = true
is_unjoined (k ∷ ks) = false

-- The labels that a line begins with, and the tokens after them.
pub record LabelSplit : Type 0 where
  pub labels : List (List Token)
  pub after : List Token

abbrev pub no_labels : List Token → LabelSplit
no_labels ts = record { labels = []; after = ts }

-- A label of one token comes before the other labels.
abbrev pub begin_label : Token → LabelSplit → LabelSplit
begin_label t l = record { labels = (t ∷ []) ∷ l.labels; after = l.after }

abbrev pub into_first : Token → List (List Token) → List (List Token)
into_first t [] = (t ∷ []) ∷ []
into_first t (l ∷ ls) = (t ∷ l) ∷ ls

-- A token goes to the front of the first label.
abbrev pub into_label : Token → LabelSplit → LabelSplit
into_label t l = record { labels = into_first t l.labels; after = l.after }

-- The directive that a name spells, in letters of any case; any other name is code.
unfoldable pub word_of_name : List ℕ → RawWord
word_of_name name =
    if is_same_word (codes "ORG") name then word.Org else
    if is_same_word (codes "END") name then word.End else
    if is_same_word (codes "EQU") name then word.Equ else
    if is_same_word (codes "FOR") name then word.For else
    if is_same_word (codes "ROF") name then word.Rof else
    word.Code

abbrev pub word_of_kind : Kind → List ℕ → RawWord
word_of_kind Name name = word_of_name name
word_of_kind Assert name = word.Assert
word_of_kind _ name = word.Code

abbrev pub line_with_word : RawWord → ℕ → List (List Token) → Token → List Token → RawLine
line_with_word word.Code number labels t ts = record { number = number; labels = labels; word = word.Code; directive = None; rest = t ∷ ts; spoiled = false }
line_with_word w number labels t ts = record { number = number; labels = labels; word = w; directive = Some t; rest = ts; spoiled = false }

abbrev pub bare_line : ℕ → List (List Token) → RawLine
bare_line number labels = record { number = number; labels = labels; word = word.Bare; directive = None; rest = []; spoiled = false }

abbrev pub is_end : RawWord → Bool
is_end word.End = true
is_end _ = false

abbrev pub has_end : List RawLine → Bool
has_end [] = false
has_end (raw ∷ raws) = is_end raw.word || has_end raws

abbrev pub lines_unless_fault : Option ExpandFault → List RawLine → Result (List RawLine) ExpandFault
lines_unless_fault None raws = Ok raws
lines_unless_fault (Some fault) raws = Err fault

-- `raws`, and `later` after them unless `raws` has END.
abbrev pub up_to_end : List RawLine → Result (List RawLine) ExpandFault → Result (List RawLine) ExpandFault
up_to_end raws later = if has_end raws then Ok raws else mapped (λ r. raws ++ r) later

module _ (source : List ℕ) where
  -- The bytes of a token, without joined counters.
  abbrev pub bytes_of : Token → List ℕ
  bytes_of t = slice_range source t.lo t.hi

  -- A name that is not reserved; with joined counters it ends with a digit, as no reserved word
  -- does.
  unfoldable pub is_unreserved_name : Token → Bool
  is_unreserved_name t = is_name_token t && not (is_unjoined t.joined && is_reserved_class (class_of (bytes_of t)))

  unfoldable pub is_opcode : Token → Bool
  is_opcode t = is_name_token t && (is_unjoined t.joined && is_opcode_word (bytes_of t))

  -- An opcode, a dot and a modifier.
  abbrev pub has_modifier : Token → Token → Token → Bool
  has_modifier t u v = is_opcode t && (is_dot u && is_name_token v)

  -- A label is an unreserved name, or such names joined by `&`, with an optional colon. By cases:
  -- `&` and a name go on with the label, a colon ends it, and anything else begins what comes next.
  abbrev pub label_split : List Token → LabelSplit
  label_split [] = no_labels []
  label_split (t ∷ []) = choose (is_unreserved_name t) (λ i. begin_label t (no_labels [])) (λ i. no_labels (t ∷ []))
  label_split (t ∷ u ∷ []) =
      choose (is_unreserved_name t)
      (λ i. choose (is_colon u) (λ j. into_label t (begin_label u (no_labels []))) (λ j. begin_label t (label_split (u ∷ []))))
      (λ i. no_labels (t ∷ u ∷ []))
  label_split (t ∷ u ∷ v ∷ ts) =
      choose (is_unreserved_name t)
      (λ i. choose (is_ampersand u && is_unreserved_name v) (λ j. into_label t (into_label u (label_split (v ∷ ts))))
      (λ j. choose (is_colon u) (λ k. into_label t (begin_label u (label_split (v ∷ ts)))) (λ k. begin_label t (label_split (u ∷ v ∷ ts)))))
      (λ i. no_labels (t ∷ u ∷ v ∷ ts))

  -- The number of tokens that belong to a label after its first name.
  abbrev pub tail_len : List Token → ℕ
  tail_len [] = 0
  tail_len (u ∷ []) = if is_colon u then 1 else 0
  tail_len (u ∷ v ∷ ts) = choose (is_ampersand u && is_unreserved_name v) (λ i. suc (suc (tail_len ts))) (λ i. if is_colon u then 1 else 0)

  abbrev pub begins_label : List Token → Bool
  begins_label [] = false
  begins_label (t ∷ ts) = is_unreserved_name t

  -- A label goes on with `&` and a name.
  abbrev pub label_goes_on : List Token → Bool
  label_goes_on (u ∷ v ∷ ts) = is_ampersand u && is_unreserved_name v
  label_goes_on _ = false

  -- The name of a label that is a single name, with or without its colon.
  abbrev pub label_token : List Token → Option Token
  label_token (t ∷ []) = if is_unreserved_name t then Some t else None
  label_token (t ∷ u ∷ []) = if is_unreserved_name t && is_colon u then Some t else None
  label_token _ = None

  abbrev pub if_unjoined : Token → Option Token
  if_unjoined t = if is_unjoined t.joined then Some t else None

  -- `label_token`, or None if the name is written with `&`.
  abbrev pub plain_token : List Token → Option Token
  plain_token l = option_and_then if_unjoined (label_token l)

  -- The word of a line whose first token after the labels is `t`.
  abbrev pub word_of : Token → RawWord
  word_of t = word_of_kind t.kind (bytes_of t)

  abbrev pub line_after_labels : ℕ → List (List Token) → List Token → RawLine
  line_after_labels number labels [] = bare_line number labels
  line_after_labels number labels (t ∷ ts) = line_with_word (word_of t) number labels t ts

  -- A line, by its number and its tokens.
  unfoldable pub raw_line_of : ℕ → List Token → RawLine
  raw_line_of number ts = line_after_labels number (label_split ts).labels (label_split ts).after

  -- An empty line is left out.
  abbrev pub line_of_tokens : List Token → List RawLine
  line_of_tokens [] = []
  line_of_tokens (t ∷ ts) = raw_line_of t.line (t ∷ ts) ∷ []

  -- The lines up to the first with END, or the `fault` that ends the tokens; `front` is what was
  -- read of the first line.
  abbrev pub lines_from : (fault : Option ExpandFault) → (front : List Token) → List Token → Result (List RawLine) ExpandFault
  lines_from fault front [] = lines_unless_fault fault (line_of_tokens front)
  lines_from fault front (t ∷ ts) =
      choose (is_line_end t.kind) (λ i. up_to_end (line_of_tokens front) (lines_from fault [] ts)) (λ i. lines_from fault (front ++ (t ∷ [])) ts)
