use Rattle.std.proofs.Common.{◌≡◌, ◌≤◌, ◌<◌, length, drop}
use Rattle.std.specs.List.{AllByRecursion}
use Rattle.rc_expand.specs.Limits.{DEEPEST_BLOCK}
use Rattle.rc_expand.proofs.Reading.BlockSteps.{SoFar}
use Rattle.rc_expand.proofs.read.blocks.check_blocks.Given as goal

abbrev pub invariant-loop-i : goal.invariant-loop-i
invariant-loop-i l =
    (length l.distances.items ≡ l.i) × (length l.open.items ≤ DEEPEST_BLOCK) × AllByRecursion (λ start. start < l.i) l.open.items
    × SoFar l.lines l.open.items l.distances.items l.outermost (drop l.i l.lines)
