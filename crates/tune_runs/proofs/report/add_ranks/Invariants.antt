use Rattle.std.proofs.Common.{◌≡◌, ◌+◌, ◌<◌, ◌^◌, ◌++◌, map, length}
use Rattle.std.specs.List.{AllByRecursion}
use Rattle.tune_runs.specs.Report.{IsSettingOf, named_setting, rank_lines}
use Rattle.tune_runs.proofs.report.add_ranks.Given as goal

-- what is written and the lines of the settings that are left make the whole
abbrev pub invariant-loop-best : goal.invariant-loop-best
invariant-loop-best l =
    (l.initial.text.items ++ rank_lines 1 (map (named_setting l.fn.inputs) l.fn.ranking)
    ≡ l.text.items ++ rank_lines (l.rank + 1) (map (named_setting l.fn.inputs) l.rest))
    × AllByRecursion (IsSettingOf l.fn.inputs) l.rest
    × (l.rank + length l.rest < 2 ^ 32)

abbrev pub decreases-loop-best : goal.decreases-loop-best
decreases-loop-best l = length l.rest
