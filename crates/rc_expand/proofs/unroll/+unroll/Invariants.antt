use Rattle.std.proofs.Common.{◌≡◌, ◌≤◌, ◌+◌, ◌-◌, ◌*◌}
use Rattle.rc_expand.specs.Contexts.{seen_context}
use Rattle.rc_expand.specs.Read.Tree.{tree_of}
use Rattle.rc_expand.specs.Unroll.{copies_from, unrolled_in}
use Rattle.rc_expand.specs.Unroll.Reached.{copies_in}
use Rattle.rc_expand.specs.Unroll.Steps.{step_of_copy}
use Rattle.rc_expand.proofs.TreeSteps.{size}
use Rattle.rc_expand.proofs.unroll.+unroll.Given as goal

abbrev pub decreases-append_lines : goal.decreases-append_lines
decreases-append_lines l = 4 * size (tree_of l.blocks.now.lines.now) + 3

abbrev pub decreases-append_block : goal.decreases-append_block
decreases-append_block l = 4 * size (tree_of l.inside.now.lines.now) + 6

abbrev pub decreases-append_copies : goal.decreases-append_copies
decreases-append_copies l = 4 * size (tree_of l.block.now.inside.lines.now) + 5

abbrev pub decreases-append_copy : goal.decreases-append_copy
decreases-append_copy l = 4 * size (tree_of l.block.now.inside.lines.now) + 4

abbrev pub decreases-append_lines-loop-raw : goal.decreases-append_lines-loop-raw
decreases-append_lines-loop-raw l = size (tree_of l.rest.lines.now)

-- the lines that are left make the whole
abbrev pub invariant-append_lines-loop-raw : goal.invariant-append_lines-loop-raw
invariant-append_lines-loop-raw l =
    (unrolled_in (seen_context l.context) (tree_of l.blocks.lines.now) (copies_in l.copies) l.fn.out ≡ unrolled_in (seen_context l.context) (tree_of l.rest.lines.now) (copies_in l.copies) l.out)
    × (size (tree_of l.rest.lines.now) ≤ size (tree_of l.blocks.lines.now))

-- the copies that are left make the whole
abbrev pub invariant-append_copies-loop-done : goal.invariant-append_copies-loop-done
invariant-append_copies-loop-done l =
    copies_from (step_of_copy l.context l.copies l.block) l.block.count 1 l.fn.out ≡ copies_from (step_of_copy l.context l.copies l.block) (l.block.count - l.done) (l.done + 1) l.out
