use Rattle.std.proofs.Common.{◌≡◌, ◌+◌, ◌*◌, drop}
use Rattle.rc_expand.specs.Contexts.{seen_context}
use Rattle.rc_expand.specs.Replace.{tokens_within}
use Rattle.rc_expand.proofs.equ_tokens.+replace.Given as goal

abbrev pub decreases-append_replaced : goal.decreases-append_replaced
decreases-append_replaced l = 2 * l.levels + 1

abbrev pub decreases-append_token : goal.decreases-append_token
decreases-append_token l = 2 * l.levels

-- the tokens that are left make the whole
abbrev pub invariant-append_replaced-loop-i : goal.invariant-append_replaced-loop-i
invariant-append_replaced-loop-i l =
    tokens_within (seen_context l.context) l.levels l.tokens l.fn.out
    ≡ tokens_within (seen_context l.context) l.levels (drop l.i l.tokens) l.out
