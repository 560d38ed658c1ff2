use Rattle.std.proofs.Common.{◌≡◌, []}
use Rattle.rc_expand.specs.Contexts.{seen_given_names}
use Rattle.rc_expand.specs.Read.{equs_from}
use Rattle.rc_expand.specs.Read.Tree.{tree_of}
use Rattle.rc_expand.proofs.TreeSteps.{size}
use Rattle.rc_expand.proofs.read.equs.collect_equs.Given as goal

abbrev pub decreases-loop-raw : goal.decreases-loop-raw
decreases-loop-raw l = size (tree_of l.rest.lines.now)

-- the lines that are left make the whole
abbrev pub invariant-loop-raw : goal.invariant-loop-raw
invariant-loop-raw l =
    equs_from l.source (seen_given_names l.given) (tree_of l.blocks.lines.now) []
    ≡ equs_from l.source (seen_given_names l.given) (tree_of l.rest.lines.now) l.equs
