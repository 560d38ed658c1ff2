use Rattle.std.proofs.Common.{◌≡◌, drop}
use Rattle.tune_problem.specs.Exact.{lists_all}
use Rattle.tune_cert.proofs.listings.lists_all.Given as goal

-- all fights are listed if the rest are
abbrev pub invariant-loop-index : goal.invariant-loop-index
invariant-loop-index l = record {
  next : l.next ≡ l.index-index;
  same : lists_all l.fights l.next (drop l.index-index l.listed) ≡ lists_all l.fights 0 l.listed;
}
