use Rattle.std.proofs.Common.{◌≡◌, ◌++◌, take}
use Rattle.tune_search.specs.Order.{with_points}
use Rattle.tune_search.proofs.order.push_with.Given as goal

abbrev pub invariant-loop-index : goal.invariant-loop-index
invariant-loop-index l = l.order.items ≡ l.fn.order.items ++ with_points l.points (take l.index-index l.fights)
