use Rattle.std.proofs.Common.{◌≡◌, ◌++◌, map, length}
use Rattle.tune_template.specs.Instances.{constants_of}
use Rattle.tune_runs.specs.Report.{constants_text}
use Rattle.tune_runs.proofs.report.add_values.Given as goal

-- what is written and what the constants that are left make is the whole
abbrev pub invariant-loop-name : goal.invariant-loop-name
invariant-loop-name l =
    l.initial.text.items ++ constants_text (constants_of (map (λ n. n.items) l.fn.names) l.fn.values)
    ≡ l.text.items ++ constants_text (constants_of (map (λ n. n.items) l.left.0.now) l.left.1.now)

abbrev pub decreases-loop-name : goal.decreases-loop-name
decreases-loop-name l = length l.left.0.now
