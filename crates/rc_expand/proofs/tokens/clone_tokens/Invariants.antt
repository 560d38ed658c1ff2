use Rattle.std.proofs.Common.{◌≡◌, take}
use Rattle.rc_expand.proofs.tokens.clone_tokens.Given as goal

abbrev pub invariant-loop-token : goal.invariant-loop-token
invariant-loop-token l = l.all.items ≡ take l.token-index l.tokens
