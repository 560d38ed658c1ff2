use Rattle.tune_search.specs.State.{IsState}
use Rattle.tune_search.proofs.tuning.search_for.Given as goal

-- the state after these visits
abbrev pub invariant-loop-visits : goal.invariant-loop-visits
invariant-loop-visits g l = record {
  state : IsState l.fn.inputs l.fn.aim l.fn.method l.visits l.state;
}
