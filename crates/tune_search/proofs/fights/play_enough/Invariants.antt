use Rattle.std.proofs.Common.{◌≡◌, ℕ, ◌<◌, ◌+◌, length, take, false}
use Rattle.std.specs.Prelude.{◌^◌}
use Rattle.mars_core.specs.Arena.{IsBlank}
use Rattle.tune_problem.specs.Problem.{problem_of}
use Rattle.tune_problem.specs.Optimum.{cap_of}
use Rattle.tune_search.specs.Plays.{played}
use Rattle.tune_search.specs.Order.{drops}
use Rattle.tune_search.proofs.fights.play_enough.Given as goal

-- the fights so far, in order, with their cap; at no cap before was the setting dropped
abbrev pub invariant-loop-index : goal.invariant-loop-index
invariant-loop-index g l =
    let p = problem_of l.fn.inputs in
    let w = l.fn.challenge.entrant.now.warrior in
    record {
      fought : l.listing.items ≡ played p w (take l.index-index l.challenge.order.now);
      holds : l.cap ≡ cap_of p w (take l.index-index l.challenge.order.now);
      kept : (j : ℕ) → j < l.index-index → drops l.challenge.method l.challenge.aim (cap_of p w (take j l.challenge.order.now)) l.challenge.entrant.now.vector l.challenge.ranking.now ≡ false;
      blank : IsBlank l.fn.inputs.rules l.arena;
      counted : l.fn.arena.fights + length l.listing.items < 2 ^ 64 → l.arena.fights ≡ l.fn.arena.fights + length l.listing.items;
    }
