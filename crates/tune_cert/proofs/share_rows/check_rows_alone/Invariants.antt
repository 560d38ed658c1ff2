use Rattle.std.proofs.Common.{◌≡◌, ◌+◌, ◌<◌, ◌≤◌}
use Rattle.std.specs.Prelude.{◌^◌}
use Rattle.mars_core.specs.Arena.{IsBlank}
use Rattle.tune_problem.specs.Problem.{problem_of}
use Rattle.tune_cert.specs.Checks.{wrong_alone, settings_between, listed_fights_of}
use Rattle.tune_cert.proofs.share_rows.check_rows_alone.Given as goal

-- the first wrong row is that of the rows from here, and so are the fights that may still be played
abbrev pub invariant-loop-vector : goal.invariant-loop-vector
invariant-loop-vector g l = record {
  blank : IsBlank l.fn.claim.inputs.now.rules l.arena;
  wrong : wrong_alone (problem_of l.fn.claim.inputs.now) l.fn.claim.statement.now l.fn.claim.aim (settings_between l.fn.first l.fn.end)
      ≡ wrong_alone (problem_of l.fn.claim.inputs.now) l.fn.claim.statement.now l.fn.claim.aim (settings_between l.vector l.fn.end);
  most : l.fn.arena.fights + listed_fights_of l.fn.claim.statement.now.rows (settings_between l.fn.first l.fn.end) < 2 ^ 64
      → l.arena.fights + listed_fights_of l.fn.claim.statement.now.rows (settings_between l.vector l.fn.end)
      ≤ l.fn.arena.fights + listed_fights_of l.fn.claim.statement.now.rows (settings_between l.fn.first l.fn.end);
}
