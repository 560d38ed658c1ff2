use Rattle.std.proofs.Common.{◌≡◌, ◌++◌, map, drop}
use Rattle.rc_expand.specs.Equs.{equ_in}
use Rattle.rc_expand.specs.NameTables.{at_index}
use Rattle.rc_expand.proofs.equ_tokens.links.link_tokens.Given as goal

-- the tokens that are left make the whole
abbrev pub invariant-loop-token : goal.invariant-loop-token
invariant-loop-token l =
    map (at_index l.equs) l.indices.items ++ map (equ_in l.source l.equs) (drop l.token-index l.tokens) ≡ map (equ_in l.source l.equs) l.tokens
