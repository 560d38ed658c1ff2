-- What a block and one copy of it add to the lines so far, by what the code keeps of the block.
use Rattle.std.specs.Prelude.{ℕ, List, option_map}
use Rattle.rc_expand.specs.declared.context.Context.{Context}
use Rattle.rc_expand.specs.declared.read.blocks.BlockSlice.{BlockSlice}
use Rattle.rc_expand.specs.declared.read.raw_line.RawLine.{RawLine}
use Rattle.rc_expand.specs.declared.unroll.reached.BlockCopy.{BlockCopy}
use Rattle.rc_expand.specs.declared.unroll.unrolling.BlockToCopy.{BlockToCopy}
use Rattle.rc_expand.specs.Contexts.{seen_context}
use Rattle.rc_expand.specs.Read.Tree.{tree_of}
use Rattle.rc_expand.specs.Unroll.{Step, one_copy, one_block, unrolled_in}
use Rattle.rc_expand.specs.Unroll.Reached.{copies_in}

-- The block with these lines inside.
abbrev pub step_of_block : Context → List BlockCopy → (inside : BlockSlice) → (opens closes : RawLine) → Step
step_of_block context copies inside opens closes =
    one_block (seen_context context) (unrolled_in (seen_context context) (tree_of inside.lines.now)) (copies_in copies) opens closes

-- The copy for the number `n` of the counter.
abbrev pub step_of_copy : Context → List BlockCopy → BlockToCopy → (n : ℕ) → Step
step_of_copy context copies block =
    one_copy (unrolled_in (seen_context context) (tree_of block.inside.lines.now)) (copies_in copies) block.line (option_map (λ c. c.now) block.counter)
