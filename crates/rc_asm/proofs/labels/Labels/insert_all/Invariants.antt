use Rattle.std.proofs.Common.{◌++◌, map, length}
use Rattle.rc_text.specs.Symbols.{name_of}
use Rattle.rc_asm.specs.Names.{Labels}
use Rattle.rc_asm.specs.Names.{Agree}
use Rattle.rc_asm.proofs.labels.Labels.insert_all.Given as goal

abbrev pub decreases-loop-token : goal.decreases-loop-token
decreases-loop-token l = length l.rest

-- the tokens that are left make the labels whole
abbrev pub invariant-loop-token : goal.invariant-loop-token
invariant-loop-token l =
    (rest : Labels) → Agree (map (λ e. (e.0, e.1.number)) l.self-inside.table ++ (map (λ t. (name_of l.source t, l.address)) l.rest ++ rest)) (l.fn.self ++ (map (λ t. (name_of l.source t, l.address)) l.tokens ++ rest))
