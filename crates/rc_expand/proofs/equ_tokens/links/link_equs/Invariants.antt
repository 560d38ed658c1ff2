use Rattle.std.proofs.Common.{◌≡◌, ◌++◌, ◌-◌, map, drop, length}
use Rattle.rc_expand.specs.Equs.{equ_in}
use Rattle.rc_expand.specs.NameTables.{at_index}
use Rattle.rc_expand.proofs.equ_tokens.links.link_equs.Given as goal

abbrev pub decreases-loop-equ : goal.decreases-loop-equ
decreases-loop-equ l = length l.equs - l.index

-- the EQU names that are left make the whole
abbrev pub invariant-loop-equ : goal.invariant-loop-equ
invariant-loop-equ l =
    map (λ x. map (at_index l.equs) x.items) l.links.items ++ map (λ e. map (equ_in l.source l.equs) e.1.tokens) (drop l.index l.equs)
    ≡ map (λ e. map (equ_in l.source l.equs) e.1.tokens) l.equs
