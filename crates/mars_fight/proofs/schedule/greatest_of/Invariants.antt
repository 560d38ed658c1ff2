use Rattle.std.proofs.Common.{◌≡◌, ◌≤◌, ◌+◌, ◌*◌, drop}
use Rattle.std.specs.List.{sum_by}
use Rattle.mars_fight.specs.Limits.{MOST_WEIGHT}
use Rattle.mars_fight.specs.declared.fight.Fight.{Fight}
use Rattle.mars_fight.proofs.schedule.greatest_of.Given as goal

-- the points so far, and the most of the rest
abbrev pub invariant-loop-fight : goal.invariant-loop-fight
invariant-loop-fight l = record {
  sum : l.greatest + sum_by (λ (f : Fight). 3 * f.weight) (drop l.fight-index l.fights) ≡ sum_by (λ (f : Fight). 3 * f.weight) l.fights;
  small : l.greatest ≤ 3 * MOST_WEIGHT * l.fight-index;
}
