use Rattle.std.proofs.Common.{◌≡◌, replicate}
use Rattle.tune_problem.specs.declared.cert.Row.TheVariants.{Refused}
use Rattle.tune_search.proofs.state.blank_rows.Given as goal

abbrev pub invariant-loop-row : goal.invariant-loop-row
invariant-loop-row l = l.rows.items ≡ replicate l._row Refused
