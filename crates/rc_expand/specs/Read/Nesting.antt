-- What a law says of the tree of a text and its lines, and of each fault of its blocks.
use Rattle.std.specs.Prelude.{◌≡◌, ℕ, zero, suc, Bool, true, false, List, [], ◌∷◌, ◌++◌, ◌⊎◌, Result, Ok, Err}
use Rattle.rc_expand.specs.declared.read.raw_line.RawLine.{RawLine}
use Rattle.rc_expand.specs.declared.read.raw_line.RawWord.{RawWord}
use Rattle.rc_expand.specs.declared.read.raw_line.RawWord.TheVariants as word
use Rattle.rc_expand.specs.declared.fault.ExpandFault.{ExpandFault}
use Rattle.rc_expand.specs.declared.fault.ExpandKind.TheVariants.{ForWithoutRof, RofWithoutFor, ForTooDeep}
use Rattle.rc_expand.specs.Limits.{DEEPEST_BLOCK}
use Rattle.rc_expand.specs.Results.{at_line}
use Rattle.rc_expand.specs.Read.Tree.{BlockTree, NoLine, OneLine, Block, lines_of}

abbrev pub opens_or_closes : RawWord → Bool
opens_or_closes word.For = true
opens_or_closes word.Rof = true
opens_or_closes _ = false

-- Each line has the word of its place in the tree, and at most `n` blocks are nested.
abbrev pub IsNested : ℕ → BlockTree → Type 0
IsNested n NoLine = Unit {0}
IsNested n (OneLine raw rest) = (opens_or_closes raw.word ≡ false) × IsNested n rest
IsNested zero (Block opens inside closes rest) = ⊥
IsNested (suc n) (Block opens inside closes rest) = (opens.word ≡ word.For) × IsNested n inside × (closes.word ≡ word.Rof) × IsNested (suc n) rest

-- An open block: its FOR, and the lines between it and the FOR around it, or the beginning.
pub record Open : Type 0 where
  pub before : BlockTree
  pub opens : RawLine

-- The lines of open blocks, the innermost of which is the first.
abbrev pub open_lines : List Open → List RawLine
open_lines [] = []
open_lines (x ∷ xs) = open_lines xs ++ (lines_of x.before ++ (x.opens ∷ []))

-- Each line has the word of its place, and of `DEEPEST_BLOCK` blocks `n` more may be opened.
abbrev pub AreOpen : ℕ → List Open → Type 0
AreOpen n [] = n ≡ DEEPEST_BLOCK
AreOpen n (x ∷ xs) = AreOpen (suc n) xs × IsNested (suc n) x.before × (x.opens.word ≡ word.For)

-- The line of the outermost of open blocks.
abbrev pub outermost_line : Open → List Open → ℕ
outermost_line x [] = x.opens.number
outermost_line x (y ∷ xs) = outermost_line y xs

-- A ROF outside of all blocks.
pub record IsRofAlone (raws : List RawLine) (f : ExpandFault) : Type 0 where
  pub before : BlockTree
  pub rof : RawLine
  pub after : List RawLine
  pub nests : IsNested DEEPEST_BLOCK before
  pub is_rof : rof.word ≡ word.Rof
  pub lines : raws ≡ lines_of before ++ (rof ∷ after)
  pub fault : f ≡ at_line rof.number RofWithoutFor

-- A FOR inside as many open blocks as may be open.
pub record IsNinth (raws : List RawLine) (f : ExpandFault) : Type 0 where
  pub opened : List Open
  pub inside : BlockTree
  pub ninth : RawLine
  pub after : List RawLine
  pub are_open : AreOpen 0 opened
  pub nests : IsNested 0 inside
  pub is_for : ninth.word ≡ word.For
  pub lines : raws ≡ (open_lines opened ++ lines_of inside) ++ (ninth ∷ after)
  pub fault : f ≡ at_line ninth.number ForTooDeep

-- Blocks that are open at the end; the fault is at the outermost FOR.
pub record IsLeftOpen (raws : List RawLine) (f : ExpandFault) : Type 0 where
  pub innermost : Open
  pub around : List Open
  pub inside : BlockTree
  pub room : ℕ
  pub are_open : AreOpen room (innermost ∷ around)
  pub nests : IsNested room inside
  pub lines : raws ≡ open_lines (innermost ∷ around) ++ lines_of inside
  pub fault : f ≡ at_line (outermost_line innermost around) ForWithoutRof

-- A tree has the lines of the text, at most `DEEPEST_BLOCK` deep, and each fault means what its
-- kind says.
abbrev pub AreBlocks : List RawLine → Result BlockTree ExpandFault → Type 0
AreBlocks raws (Ok b) = IsNested DEEPEST_BLOCK b × (raws ≡ lines_of b)
AreBlocks raws (Err f) = IsRofAlone raws f ⊎ IsNinth raws f ⊎ IsLeftOpen raws f
