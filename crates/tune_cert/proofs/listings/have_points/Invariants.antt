use Rattle.std.proofs.Common.{◌≡◌, ◌+◌, ◌<◌, drop}
use Rattle.std.specs.Prelude.{◌^◌}
use Rattle.mars_core.specs.Arena.{IsBlank}
use Rattle.tune_problem.specs.Problem.{problem_of}
use Rattle.tune_cert.specs.Checks.{have_points}
use Rattle.tune_cert.proofs.listings.have_points.Given as goal

-- all have their points if the rest have
abbrev pub invariant-loop-index : goal.invariant-loop-index
invariant-loop-index g l = record {
  points : have_points (problem_of l.inputs) l.warrior (drop l.index-index l.listed) ≡ have_points (problem_of l.inputs) l.warrior l.listed;
  blank : IsBlank l.inputs.rules l.arena;
  counted : l.fn.arena.fights + l.index-index < 2 ^ 64 → l.arena.fights ≡ l.fn.arena.fights + l.index-index;
}
