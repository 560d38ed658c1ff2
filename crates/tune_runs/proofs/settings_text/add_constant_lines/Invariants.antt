use Rattle.std.proofs.Common.{◌≡◌, ◌++◌, map, length}
use Rattle.tune_runs.specs.SettingsRun.{constant_lines}
use Rattle.tune_runs.proofs.settings_text.add_constant_lines.Given as goal

-- what is written and what the constants that are left make is the whole
abbrev pub invariant-loop-name : goal.invariant-loop-name
invariant-loop-name l =
    l.initial.text.items ++ constant_lines (map (λ n. n.items) l.fn.names) l.fn.spans
    ≡ l.text.items ++ constant_lines (map (λ n. n.items) l.left.0.now) l.left.1.now

abbrev pub decreases-loop-name : goal.decreases-loop-name
decreases-loop-name l = length l.left.0.now
