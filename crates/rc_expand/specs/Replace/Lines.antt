-- The third pass, line by line: the names that a line defines must be new, its EQU names give way
-- to their tokens, and EQU lines are dropped.
use Rattle.std.specs.Prelude.{ℕ, ◌||◌, List, [], ◌∷◌, ◌++◌, map, Option, Some, None, if◌then◌else◌, option_to_list, flat_map, Result, Ok, Err}
use Rattle.rc_text.specs.declared.token.Token.{Token}
use Rattle.rc_text.specs.Symbols.{name_of}
use Rattle.rc_expand.specs.declared.read.raw_line.RawLine.{RawLine}
use Rattle.rc_expand.specs.declared.read.raw_line.RawWord.{RawWord}
use Rattle.rc_expand.specs.declared.read.raw_line.RawWord.TheVariants as word
use Rattle.rc_expand.specs.declared.line.Line.{Line}
use Rattle.rc_expand.specs.declared.line.LineWord.{LineWord}
use Rattle.rc_expand.specs.declared.line.LineWord.TheVariants as line
use Rattle.rc_expand.specs.declared.fault.ExpandFault.{ExpandFault}
use Rattle.rc_expand.specs.declared.fault.ExpandKind.TheVariants.{DuplicateName}
use Rattle.rc_instr.specs.Results.{mapped, ◌>>=◌}
use Rattle.rc_expand.specs.Results.{at_line}
use Rattle.rc_expand.specs.Contexts.{ContextView}
use Rattle.rc_expand.specs.Names.{is_among, is_taken}
use Rattle.rc_expand.specs.Read.Lines.{label_token}
use Rattle.rc_expand.specs.Replace.{line_tokens}

-- The word of a line. EQU, FOR and ROF do not come here: the passes have dropped or unrolled these
-- lines.
abbrev pub line_word : RawWord → LineWord
line_word word.Bare = line.Bare
line_word word.Org = line.Org
line_word word.End = line.End
line_word word.Assert = line.Assert
line_word _ = line.Code

module _ (source : List ℕ) where
  abbrev pub own_label_then : Option Token → List Token → List Token
  own_label_then None ts = []
  own_label_then (Some t) ts = t ∷ ts

  -- The labels of a line: those before the first that is not a single name.
  abbrev pub own_labels : List (List Token) → List Token
  own_labels [] = []
  own_labels (l ∷ ls) = own_label_then (label_token source l) (own_labels ls)

  abbrev pub others_here_or_later : Option Token → List (List Token) → List (List Token) → List (List Token)
  others_here_or_later None here later = here
  others_here_or_later (Some t) here later = later

  -- The labels from the first that is not a single name on. They are tokens of a line of code.
  abbrev pub other_labels : List (List Token) → List (List Token)
  other_labels [] = []
  other_labels (l ∷ ls) = others_here_or_later (label_token source l) (l ∷ ls) (other_labels ls)

  abbrev pub expanded_line : RawLine → RawWord → List Token → Line
  expanded_line raw w tokens = record { number = raw.number; labels = own_labels raw.labels; word = line_word w; tokens = tokens }

  -- The names that a line defines: its labels, or its EQU name.
  abbrev pub names_of : RawLine → List (List ℕ)
  names_of raw = map (name_of source) (own_labels raw.labels)

module _ (context : ContextView) where
  abbrev pub made_line : RawLine → RawWord → List Token → Result Line ExpandFault
  made_line raw w tokens = mapped (expanded_line context.source raw w) (line_tokens context raw.number w tokens)

  -- If a would-be label is not a single name, the line is code, and begins with the tokens of that
  -- label.
  abbrev pub line_with_others : RawLine → List (List Token) → Result Line ExpandFault
  line_with_others raw [] = made_line raw raw.word raw.rest
  line_with_others raw (l ∷ ls) = made_line raw word.Code (flat_map (λ x. x) (l ∷ ls) ++ (option_to_list raw.directive ++ raw.rest))

  -- A line with its EQU names replaced.
  unfoldable pub line_of : RawLine → Result Line ExpandFault
  line_of raw = line_with_others raw (other_labels context.source raw.labels)

-- The names defined so far, and the lines of the expansion.
pub record LinesSoFarView : Type 0 where
  pub names : List (List ℕ)
  pub lines : List Line

abbrev pub nothing_replaced : LinesSoFarView
nothing_replaced = record { names = []; lines = [] }

abbrev pub with_expanded_line : List Line → List (List ℕ) → Line → LinesSoFarView
with_expanded_line lines names l = record { names = names; lines = lines ++ (l ∷ []) }

module _ (context : ContextView) where
  -- Defines names one after the other. None may be a constant, a predefined name or defined
  -- before.
  abbrev pub with_names : (number : ℕ) → List (List ℕ) → (before : List (List ℕ)) → Result (List (List ℕ)) ExpandFault
  with_names number [] before = Ok before
  with_names number (n ∷ ns) before =
      if is_taken context.given n || is_among before n then Err (at_line number DuplicateName) else with_names number ns (before ++ (n ∷ []))

  -- Drops an EQU line, and adds any other.
  abbrev pub line_added : RawWord → RawLine → List Line → List (List ℕ) → Result LinesSoFarView ExpandFault
  line_added word.Equ raw lines names = Ok (record { names = names; lines = lines })
  line_added _ raw lines names = mapped (with_expanded_line lines names) (line_of context raw)

  -- Adds a line: first its names, then its tokens.
  abbrev pub line_replaced : RawLine → LinesSoFarView → Result LinesSoFarView ExpandFault
  line_replaced raw r = do
    names ← with_names raw.number (names_of context.source raw) r.names
    line_added raw.word raw r.lines names

  abbrev pub lines_replaced : List RawLine → LinesSoFarView → Result LinesSoFarView ExpandFault
  lines_replaced [] r = Ok r
  lines_replaced (raw ∷ raws) r = do
    next ← line_replaced raw r
    lines_replaced raws next

  -- The third pass.
  unfoldable pub replaced : List RawLine → Result (List Line) ExpandFault
  replaced raws = mapped (λ r. r.lines) (lines_replaced raws nothing_replaced)
