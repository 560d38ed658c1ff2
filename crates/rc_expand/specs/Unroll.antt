-- The second pass: each block gives way to its copies, outer blocks first (FOR and ROF are from
-- pMARS).
pub mod Copies
pub mod Numberings
pub mod Openings
pub mod Reached
pub mod Steps
use Rattle.std.specs.Prelude.{ℕ, zero, suc, Bool, true, ◌&&◌, not, ◌+◌, ◌==◌, nat_lt, List, [], ◌∷◌, ◌++◌, length, Option, if◌then◌else◌, Result, Ok, Err}
use Rattle.rc_text.specs.declared.token.Token.{Token}
use Rattle.rc_expand.specs.declared.read.raw_line.RawLine.{RawLine}
use Rattle.rc_expand.specs.declared.read.raw_line.RawWord.{RawWord}
use Rattle.rc_expand.specs.declared.read.raw_line.RawWord.TheVariants as word
use Rattle.rc_expand.specs.declared.fault.ExpandFault.{ExpandFault}
use Rattle.rc_expand.specs.declared.fault.ExpandKind.TheVariants.{BadDirective, TooManyLines}
use Rattle.rc_expand.specs.Limits.{MOST_LINES}
use Rattle.rc_instr.specs.Results.{mapped, ◌>>=◌}
use Rattle.rc_expand.specs.Results.{at_line}
use Rattle.rc_expand.specs.Contexts.{ContextView}
use Rattle.rc_expand.specs.Read.Lines.{bare_line}
use Rattle.rc_expand.specs.Read.Tree.{BlockTree, NoLine, OneLine, Block}
use Rattle.rc_expand.specs.Unroll.Copies.{BlockCopyView, is_in_block, line_in}
use Rattle.rc_expand.specs.Unroll.Openings.{opening}

-- The lines that were unrolled so far, and the number of copies of blocks that were begun.
pub record UnrolledSoFarView : Type 0 where
  pub lines : List RawLine
  pub copy_count : ℕ

abbrev pub nothing_unrolled : UnrolledSoFarView
nothing_unrolled = record { lines = []; copy_count = 0 }

-- A step: the lines so far with a part of the text added, or the first fault.
abbrev pub Step : Type 0
Step = UnrolledSoFarView → Result UnrolledSoFarView ExpandFault

-- There is room for one more line, or for one more copy of a block.
abbrev pub has_room : UnrolledSoFarView → Bool
has_room u = nat_lt (length u.lines + u.copy_count) MOST_LINES

-- One more line, within the limit.
abbrev pub with_line : RawLine → Step
with_line raw u = if has_room u then Ok (record u { lines = u.lines ++ (raw ∷ []) }) else Err (at_line raw.number TooManyLines)

-- Counts one more copy of the block whose FOR is at this line, within the limit.
abbrev pub with_copy : (line : ℕ) → Step
with_copy line u = if has_room u then Ok (record u { copy_count = u.copy_count + 1 }) else Err (at_line line TooManyLines)

-- `n` copies in turn, for the numbers `k`, `k + 1` and so on; `f` makes one.
abbrev pub copies_from : (ℕ → Step) → (n k : ℕ) → Step
copies_from f zero k u = Ok u
copies_from f (suc n) k u = f k u >>= copies_from f n (k + 1)

-- The labels before a counter are a line of their own, if there are any.
abbrev pub with_earlier : (line : ℕ) → List (List Token) → Step
with_earlier line [] u = Ok u
with_earlier line (l ∷ ls) u = with_line (bare_line line (l ∷ ls)) u

-- A ROF has nothing before or after it on its line.
abbrev pub is_bare_rof : RawLine → Bool
is_bare_rof raw = not raw.spoiled && ((length raw.labels == 0) && (length raw.rest == 0))

-- Refuses a ROF with anything else on its line. A ROF adds no line.
abbrev pub rof_check : RawLine → Step
rof_check rof u = if is_bare_rof rof then Ok u else Err (at_line rof.number BadDirective)

-- Refuses an EQU line in a block, and a spoiled line, which has a name to which a ninth counter
-- would be joined. FOR and ROF have checks of their own.
abbrev pub word_check : (line : ℕ) → RawWord → (in_block spoiled : Bool) → Result (Unit {0}) ExpandFault
word_check line word.Equ true s = Err (at_line line BadDirective)
word_check line _ b s = if s then Err (at_line line BadDirective) else Ok tt

-- `word_check` of a whole line.
abbrev pub line_check : (in_block : Bool) → RawLine → Result (Unit {0}) ExpandFault
line_check b raw = word_check raw.number raw.word b raw.spoiled

-- One copy of a block, for its counter's number `k`. The block is in `copies`, and its FOR is at
-- `line`; `inside` unrolls its lines.
abbrev pub one_copy : (inside : List BlockCopyView → Step) → List BlockCopyView → (line : ℕ) → Option (List ℕ) → (k : ℕ) → Step
one_copy inside copies line counter k u = do
  v ← with_copy line u
  inside (copies ++ (record { counter = counter; number = k } ∷ [])) v

module _ (context : ContextView) where
  -- Adds a line other than FOR and ROF as it is in these copies, unless it has a fault.
  abbrev pub one_line : List BlockCopyView → RawLine → Step
  one_line copies raw u = do
    _ ← line_check (is_in_block copies) (line_in context.source copies raw)
    with_line (line_in context.source copies raw) u

  -- A block in these copies: its FOR, the labels before the counter, its copies, and then its ROF.
  abbrev pub one_block : (inside : List BlockCopyView → Step) → List BlockCopyView → (opens closes : RawLine) → Step
  one_block inside copies opens closes u = do
    o ← opening context (line_in context.source copies opens)
    v ← with_earlier opens.number o.earlier u
    w ← copies_from (one_copy inside copies opens.number o.counter) o.count 1 v
    rof_check (line_in context.source copies closes) w

  -- Lines in these copies, the outermost first.
  abbrev pub unrolled_in : BlockTree → List BlockCopyView → Step
  unrolled_in NoLine copies u = Ok u
  unrolled_in (OneLine raw rest) copies u = do
    v ← one_line copies raw u
    unrolled_in rest copies v
  unrolled_in (Block opens inside closes rest) copies u = do
    v ← one_block (unrolled_in inside) copies opens closes u
    unrolled_in rest copies v

  -- The second pass.
  unfoldable pub unrolled : BlockTree → Result (List RawLine) ExpandFault
  unrolled b = mapped (λ u. u.lines) (unrolled_in b [] nothing_unrolled)
