use Rattle.std.proofs.Common.{◌≡◌}
use Rattle.tune_problem.specs.Problem.{problem_of}
use Rattle.tune_cert.specs.Checks.{wrong_same, settings_between}
use Rattle.tune_cert.proofs.share_rows.none_refer.Given as goal

-- the first wrong row is that of the rows from here
abbrev pub invariant-loop-vector : goal.invariant-loop-vector
invariant-loop-vector l =
    wrong_same (problem_of l.fn.claim.inputs.now) l.fn.claim.statement.now l.fn.claim.aim (settings_between l.fn.first l.fn.end)
    ≡ wrong_same (problem_of l.fn.claim.inputs.now) l.fn.claim.statement.now l.fn.claim.aim (settings_between l.vector l.fn.end)
