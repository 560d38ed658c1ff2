-- Texts of plain lines: each begins with an opcode word or with ORG. Their raw lines, from their
-- tokens.
use Rattle.std.proofs.Common.{◌≡◌, ℕ, suc, ◌<◌, true, false, List, [], ◌∷◌, ◌++◌, length, Some, None, refl, sym, ◌∙◌, ap, append_assoc}
use Rattle.std.specs.Prelude.{◌&&◌, not, Option, codes, Result, Ok}
use Rattle.std.proofs.lemmas.List.{append-nil}
use Rattle.rc_text.specs.declared.token.Kind.TheVariants.{Name}
use Rattle.rc_text.specs.declared.token.Token.{Token}
use Rattle.rc_text.specs.Gaps.{is_line_end}
use Rattle.rc_text.specs.NameClasses.{class_of, is_opcode_word}
use Rattle.rc_text.specs.Tokens.{tokens_of}
use Rattle.rc_instr.specs.Rules.{RulesView}
use Rattle.rc_instr.specs.Words.{opcode_text}
use Rattle.rc_instr.specs.declared.instruction.Opcode.{Opcode}
use Rattle.rc_instr.specs.declared.instruction.Opcode.TheVariants as op
use Rattle.rc_expand.specs.Limits.{MOST_TOKENS}
use Rattle.rc_expand.specs.declared.read.raw_line.RawLine.{RawLine}
use Rattle.rc_expand.specs.declared.read.raw_line.RawWord.TheVariants as word
use Rattle.rc_expand.specs.declared.fault.ExpandFault.{ExpandFault}
use Rattle.rc_expand.specs.declared.line.Line.{Line}
use Rattle.rc_expand.specs.declared.line.LineWord.TheVariants as line
use Rattle.rc_expand.specs.Read.Lines.{is_name_kind, is_reserved_class, is_unjoined, bytes_of, is_unreserved_name, word_of_name, word_of_kind, no_labels, label_split, line_with_word, line_after_labels, raw_line_of, line_of_tokens, up_to_end, lines_from}
use Rattle.rc_expand.specs.Read.Tree.{BlockTree, NoLine, OneLine, line_before, blocks_of}
use Rattle.rc_expand.specs.Names.{GivenNamesView}
use Rattle.rc_instr.specs.Results.{mapped, and_then}
use Rattle.rc_expand.specs.Read.{text_lines, equs_from, equs_of, first_pass_of_blocks, first_pass}
use Rattle.rc_expand.proofs.Reading.TextFaults.{no_fault}

-- ---- plain lines

-- what a plain line begins with
pub data PlainWord : Type 0 where
  AnOpcode : Opcode → PlainWord
  AStart : PlainWord

-- the text of the word
abbrev pub text_of : PlainWord → List ℕ
text_of (AnOpcode o) = opcode_text o
text_of AStart = codes "ORG"

-- the tokens of a plain line: the first, the others and its end
pub record PlainLine : Type 0 where
  pub word : PlainWord
  pub first : Token
  pub others : List Token
  pub end : Token

-- no line ends among them
abbrev pub HaveNoEnd : List Token → Type 0
HaveNoEnd [] = Unit {0}
HaveNoEnd (t ∷ ts) = (is_line_end t.kind ≡ false) × HaveNoEnd ts

-- the first token is the line's word
pub record IsPlain (source : List ℕ) (p : PlainLine) : Type 0 where
  pub kind : p.first.kind ≡ Name
  pub joined : p.first.joined ≡ []
  pub bytes : bytes_of source p.first ≡ text_of p.word
  pub others : HaveNoEnd p.others
  pub end : is_line_end p.end.kind ≡ true
  pub short : length p.others < MOST_TOKENS

-- each of the lines is plain
abbrev pub ArePlain : List ℕ → List PlainLine → Type 0
ArePlain source [] = Unit {0}
ArePlain source (p ∷ ps) = IsPlain source p × ArePlain source ps

-- their tokens
abbrev pub plain_tokens : List PlainLine → List Token
plain_tokens [] = []
plain_tokens (p ∷ ps) = (p.first ∷ p.others) ++ (p.end ∷ plain_tokens ps)

-- the raw line of a word and the tokens with it
abbrev pub raw_line_by : PlainWord → Token → List Token → RawLine
raw_line_by (AnOpcode o) t ts = record { number = t.line; labels = []; word = word.Code; directive = None; rest = t ∷ ts; spoiled = false }
raw_line_by AStart t ts = record { number = t.line; labels = []; word = word.Org; directive = Some t; rest = ts; spoiled = false }

-- a plain line as a raw line
abbrev pub plain_raw_line : PlainLine → RawLine
plain_raw_line p = raw_line_by p.word p.first p.others

-- the raw lines of all
abbrev pub plain_raw_lines : List PlainLine → List RawLine
plain_raw_lines [] = []
plain_raw_lines (p ∷ ps) = plain_raw_line p ∷ plain_raw_lines ps

-- and their tree
abbrev pub plain_blocks : List PlainLine → BlockTree
plain_blocks [] = NoLine
plain_blocks (p ∷ ps) = OneLine (plain_raw_line p) (plain_blocks ps)

-- a line by its word
abbrev pub plain_line_by : PlainWord → Token → List Token → Line
plain_line_by (AnOpcode o) t ts = record { number = t.line; labels = []; word = line.Code; tokens = t ∷ ts }
plain_line_by AStart t ts = record { number = t.line; labels = []; word = line.Org; tokens = ts }

-- the line of the expansion
abbrev pub plain_line : PlainLine → Line
plain_line p = plain_line_by p.word p.first p.others

-- the lines of the expansion
abbrev pub plain_lines : List PlainLine → List Line
plain_lines [] = []
plain_lines (p ∷ ps) = plain_line p ∷ plain_lines ps

-- ---- the raw line of one

-- an opcode word and ORG are reserved
text_reserved : (w : PlainWord) → is_reserved_class (class_of (text_of w)) ≡ true
unfolding is_opcode_word
text_reserved (AnOpcode op.Dat) = refl
text_reserved (AnOpcode op.Mov) = refl
text_reserved (AnOpcode op.Add) = refl
text_reserved (AnOpcode op.Sub) = refl
text_reserved (AnOpcode op.Mul) = refl
text_reserved (AnOpcode op.Div) = refl
text_reserved (AnOpcode op.Mod) = refl
text_reserved (AnOpcode op.Jmp) = refl
text_reserved (AnOpcode op.Jmz) = refl
text_reserved (AnOpcode op.Jmn) = refl
text_reserved (AnOpcode op.Djn) = refl
text_reserved (AnOpcode op.Seq) = refl
text_reserved (AnOpcode op.Sne) = refl
text_reserved (AnOpcode op.Slt) = refl
text_reserved (AnOpcode op.Spl) = refl
text_reserved (AnOpcode op.Nop) = refl
text_reserved AStart = refl

-- an opcode word is not a directive
opcode_word : (o : Opcode) → word_of_name (opcode_text o) ≡ word.Code
unfolding word_of_name
opcode_word op.Dat = refl
opcode_word op.Mov = refl
opcode_word op.Add = refl
opcode_word op.Sub = refl
opcode_word op.Mul = refl
opcode_word op.Div = refl
opcode_word op.Mod = refl
opcode_word op.Jmp = refl
opcode_word op.Jmz = refl
opcode_word op.Jmn = refl
opcode_word op.Djn = refl
opcode_word op.Seq = refl
opcode_word op.Sne = refl
opcode_word op.Slt = refl
opcode_word op.Spl = refl
opcode_word op.Nop = refl

-- a raw line by its word
raw_line_is : (w : PlainWord) (t : Token) (ts : List Token) → line_with_word (word_of_name (text_of w)) t.line [] t ts ≡ raw_line_by w t ts
unfolding word_of_name
raw_line_is (AnOpcode o) t ts = ap (λ w. line_with_word w t.line [] t ts) (opcode_word o)
raw_line_is AStart t ts = refl

module _ (source : List ℕ) where
  -- the word of a plain line is not a label
  not_unreserved : (p : PlainLine) → IsPlain source p → is_unreserved_name source p.first ≡ false
  unfolding is_unreserved_name
  not_unreserved p h = (λ x. is_name_kind (h.kind x) && not (is_unjoined (h.joined x) && is_reserved_class (class_of (h.bytes x)))) ∙ ap not (text_reserved p.word)

  -- and so no label comes before it
  no_label : (t : Token) (ts : List Token) → is_unreserved_name source t ≡ false → label_split source (t ∷ ts) ≡ no_labels (t ∷ ts)
  no_label t [] f = rw f refl
  no_label t (u ∷ []) f = rw f refl
  no_label t (u ∷ v ∷ ts) f = rw f refl

  -- the raw line of a plain line's tokens
  raw_line_there : (p : PlainLine) → IsPlain source p → raw_line_of source p.first.line (p.first ∷ p.others) ≡ plain_raw_line p
  unfolding raw_line_of
  raw_line_there p h =
      ap (λ l. line_after_labels source p.first.line l.labels l.after) (no_label p.first p.others (not_unreserved p h))
      ∙ (λ x. line_with_word (word_of_kind (h.kind x) (h.bytes x)) p.first.line [] p.first p.others)
      ∙ raw_line_is p.word p.first p.others

  -- ---- the raw lines of all

  -- the tokens up to a line's end are its line
  line_there : (ending : Option ExpandFault) (front ts : List Token) (e : Token) (others : List Token) → HaveNoEnd ts → is_line_end e.kind ≡ true
      → lines_from source ending front (ts ++ (e ∷ others)) ≡ up_to_end (line_of_tokens source (front ++ ts)) (lines_from source ending [] others)
  line_there ending front [] e others h k = rw k (ap (λ f. up_to_end (line_of_tokens source f) (lines_from source ending [] others)) (sym (append-nil front)))
  line_there ending front (t ∷ ts) e others h k =
      rw h.0 (line_there ending (front ++ (t ∷ [])) ts e others h.1 k ∙ ap (λ f. up_to_end (line_of_tokens source f) (lines_from source ending [] others)) (append_assoc front (t ∷ []) ts))

  -- the first token ends no line
  first_no_end : (p : PlainLine) → IsPlain source p → is_line_end p.first.kind ≡ false
  first_no_end p h = ap is_line_end h.kind

  -- no line is the last by END
  then_more : (p : PlainLine) (later : Result (List RawLine) ExpandFault) → up_to_end (plain_raw_line p ∷ []) later ≡ mapped (λ hs. plain_raw_line p ∷ hs) later
  then_more p later = by_word p.word where
    by_word : (w : PlainWord) → up_to_end (raw_line_by w p.first p.others ∷ []) later ≡ mapped (λ hs. raw_line_by w p.first p.others ∷ hs) later
    by_word (AnOpcode o) = refl
    by_word AStart = refl

  -- the raw lines from one on
  raw_lines_from : (ps : List PlainLine) → ArePlain source ps → lines_from source None [] (plain_tokens ps) ≡ Ok (plain_raw_lines ps)
  raw_lines_from [] a = refl
  raw_lines_from (p ∷ ps) a =
      line_there None [] (p.first ∷ p.others) p.end (plain_tokens ps) (first_no_end p a.0, a.0.others) a.0.end
      ∙ ap (λ h. up_to_end (h ∷ []) (lines_from source None [] (plain_tokens ps))) (raw_line_there p a.0)
      ∙ then_more p (lines_from source None [] (plain_tokens ps))
      ∙ ap (mapped (λ hs. plain_raw_line p ∷ hs)) (raw_lines_from ps a.1)

  -- the lines that are read
  lines_there : (ps : List PlainLine) → ArePlain source ps → tokens_of source ≡ record { tokens = plain_tokens ps; ending = None } → text_lines source ≡ Ok (plain_raw_lines ps)
  lines_there ps a e =
      ap (λ o. lines_from source o [] (tokens_of source).tokens) (no_fault source (ap (λ l. l.ending) e)) ∙ (ap (λ l. lines_from source None [] l.tokens) e ∙ raw_lines_from ps a)

  -- ---- no FOR, ROF or EQU is among them

  -- they have no block
  plain_nests : (ps : List PlainLine) → blocks_of (plain_raw_lines ps) ≡ Ok (plain_blocks ps)
  plain_nests [] = refl
  plain_nests (p ∷ ps) = by_word p.word ∙ ap (mapped (line_before (plain_raw_line p) 0)) (plain_nests ps) where
    by_word : (w : PlainWord) → blocks_of (raw_line_by w p.first p.others ∷ plain_raw_lines ps) ≡ mapped (line_before (raw_line_by w p.first p.others) 0) (blocks_of (plain_raw_lines ps))
    by_word (AnOpcode o) = refl
    by_word AStart = refl

  module _ (rules : RulesView) where
    -- without constants
    abbrev no_constants : GivenNamesView
    no_constants = record { constants = []; rules = rules }

    -- no EQU line is there
    plain_equs : (ps : List PlainLine) → equs_from source no_constants (plain_blocks ps) [] ≡ Ok []
    plain_equs [] = refl
    plain_equs (p ∷ ps) = by_word p.word (plain_equs ps) where
      by_word : (w : PlainWord) → equs_from source no_constants (plain_blocks ps) [] ≡ Ok [] → equs_from source no_constants (OneLine (raw_line_by w p.first p.others) (plain_blocks ps)) [] ≡ Ok []
      by_word (AnOpcode o) h = h
      by_word AStart h = h

    -- and no EQU name
    no_equs : (ps : List PlainLine) → equs_of source no_constants (plain_blocks ps) ≡ Ok []
    unfolding equs_of
    no_equs ps = plain_equs ps

    -- the first part of the expansion
    pub first_pass_there : (ps : List PlainLine) → ArePlain source ps → tokens_of source ≡ record { tokens = plain_tokens ps; ending = None }
        → first_pass source no_constants ≡ Ok (record { blocks = plain_blocks ps; equs = [] })
    unfolding first_pass
    first_pass_there ps a e =
        ap (λ o. and_then (first_pass_of_blocks source no_constants) (and_then blocks_of o)) (lines_there ps a e)
        ∙ ap (and_then (first_pass_of_blocks source no_constants)) (plain_nests ps)
        ∙ ap (mapped (λ equs. record { blocks = plain_blocks ps; equs = equs })) (no_equs ps)

-- there is a raw line for each line
pub raw_lines_length : (ps : List PlainLine) → length (plain_raw_lines ps) ≡ length ps
raw_lines_length [] = refl
raw_lines_length (p ∷ ps) = ap suc (raw_lines_length ps)
