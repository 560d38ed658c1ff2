use Rattle.std.proofs.Common.{◌≡◌, length, map}
use Rattle.rc_expand.specs.Names.{is_among}
use Rattle.tune_template.proofs.range.is_among.Given as goal

abbrev pub decreases-loop-other : goal.decreases-loop-other
decreases-loop-other l = length l.rest

-- the names that are left decide
abbrev pub invariant-loop-other : goal.invariant-loop-other
invariant-loop-other l = is_among (map (λ n. n.items) l.names) l.name ≡ is_among (map (λ n. n.items) l.rest) l.name
