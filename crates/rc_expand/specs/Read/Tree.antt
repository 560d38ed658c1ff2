-- Blocks: FOR and ROF pair up like parentheses (pMARS), and at most `DEEPEST_BLOCK` blocks are open
-- at once.
use Rattle.std.specs.Prelude.{◌≡◌, ℕ, zero, suc, nat_lt, List, [], ◌∷◌, ◌++◌, length, if◌then◌else◌, Result, Ok, Err}
use Rattle.rc_expand.specs.declared.read.raw_line.RawLine.{RawLine}
use Rattle.rc_expand.specs.declared.read.raw_line.RawWord.{RawWord}
use Rattle.rc_expand.specs.declared.read.raw_line.RawWord.TheVariants as word
use Rattle.rc_expand.specs.declared.fault.ExpandFault.{ExpandFault}
use Rattle.rc_expand.specs.declared.fault.ExpandKind.TheVariants.{ForWithoutRof, RofWithoutFor, ForTooDeep}
use Rattle.rc_expand.specs.Limits.{DEEPEST_BLOCK}
use Rattle.rc_instr.specs.Results.{mapped}
use Rattle.rc_expand.specs.Results.{at_line}

-- Lines as a tree, in reading order: no line; one that is neither FOR nor ROF, and the rest; or a
-- block, which is a FOR, the lines inside and a ROF, and the rest.
pub data BlockTree : Type 0 where
  NoLine : BlockTree
  OneLine : (raw : RawLine) → (rest : BlockTree) → BlockTree
  Block : (opens : RawLine) → (inside : BlockTree) → (closes : RawLine) → (rest : BlockTree) → BlockTree

-- The lines of a tree.
abbrev pub lines_of : BlockTree → List RawLine
lines_of NoLine = []
lines_of (OneLine raw rest) = raw ∷ lines_of rest
lines_of (Block opens inside closes rest) = opens ∷ (lines_of inside ++ (closes ∷ lines_of rest))

-- A number for each line: the distance from a FOR to its ROF, 1 if they are neighbours, and 0 for
-- any other line.
abbrev pub distances : BlockTree → List ℕ
distances NoLine = []
distances (OneLine raw rest) = 0 ∷ distances rest
distances (Block opens inside closes rest) = suc (length (distances inside)) ∷ (distances inside ++ (0 ∷ distances rest))

-- What is read while a block is open: the lines up to its ROF, the ROF, and what comes after it.
pub record Part (A : Type 0) : Type 0 where
  pub inside : BlockTree
  pub closes : RawLine
  pub after : A

-- What is read while `n` blocks are open.
abbrev pub Parts : (n : ℕ) → Type 0
Parts zero = BlockTree
Parts (suc n) = Part (Parts n)

-- Puts a line before the parts.
abbrev pub line_before : RawLine → (n : ℕ) → Parts n → Parts n
line_before raw zero b = OneLine raw b
line_before raw (suc n) p = record { inside = OneLine raw p.inside; closes = p.closes; after = p.after }

-- Puts a ROF before the parts, which closes one block more.
abbrev pub rof_before : RawLine → (n : ℕ) → Parts n → Parts (suc n)
rof_before r n p = record { inside = NoLine; closes = r; after = p }

-- Puts a FOR before the parts: with it, the innermost open part becomes a block.
abbrev pub for_before : RawLine → (n : ℕ) → Parts (suc n) → Parts n
for_before f zero p = Block f p.inside p.closes p.after
for_before f (suc n) p = record { inside = Block f p.inside p.closes p.after.inside; closes = p.after.closes; after = p.after.after }

-- Reads a line by its word, and the lines after it by `next`. `n` blocks are open before the line;
-- the FOR of the outermost is at line `outermost`.
abbrev pub parts_by : RawWord → RawLine → (n outermost : ℕ) → ((m line : ℕ) → Result (Parts m) ExpandFault) → Result (Parts n) ExpandFault
parts_by word.For raw zero outermost next = mapped (for_before raw zero) (next 1 raw.number)
parts_by word.For raw (suc n) outermost next =
    if nat_lt (suc n) DEEPEST_BLOCK then mapped (for_before raw (suc n)) (next (suc (suc n)) outermost) else Err (at_line raw.number ForTooDeep)
parts_by word.Rof raw zero outermost next = Err (at_line raw.number RofWithoutFor)
parts_by word.Rof raw (suc n) outermost next = mapped (rof_before raw n) (next n outermost)
parts_by _ raw n outermost next = mapped (line_before raw n) (next n outermost)

-- Reads lines while `n` blocks are open.
abbrev pub parts_from : List RawLine → (n outermost : ℕ) → Result (Parts n) ExpandFault
parts_from [] zero outermost = Ok NoLine
parts_from [] (suc n) outermost = Err (at_line outermost ForWithoutRof)
parts_from (raw ∷ raws) n outermost = parts_by raw.word raw n outermost (λ m line. parts_from raws m line)

-- The tree of lines. Refuses the first FOR inside `DEEPEST_BLOCK` open blocks, or ROF outside of
-- all blocks; then the outermost FOR that is still open at the end.
abbrev pub blocks_of : List RawLine → Result BlockTree ExpandFault
blocks_of raws = parts_from raws 0 0

abbrev pub blocks_or_none : Result BlockTree ExpandFault → BlockTree
blocks_or_none (Ok b) = b
blocks_or_none (Err f) = NoLine

-- The tree of lines that have one.
abbrev pub tree_of : List RawLine → BlockTree
tree_of raws = blocks_or_none (blocks_of raws)

-- The lines have a tree, and these are its distances.
abbrev pub HaveDistances : List RawLine → List ℕ → Type 0
HaveDistances raws ds = mapped distances (blocks_of raws) ≡ Ok ds
