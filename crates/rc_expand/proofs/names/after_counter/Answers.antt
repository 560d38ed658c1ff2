use Rattle.std.proofs.Common.{◌≢◌, ◌≡◌, ◌++◌, ℕ, List, MatchOption, subst}
use Rattle.rc_expand.proofs.names.after_counter.Goals as goal

pub returns : goal.returns
returns c =
    subst (λ t. MatchOption c.after_bytes.result ((rest : List ℕ) → c.args.bytes.now ≢ t ++ rest) (λ x. c.args.bytes.now ≡ t ++ x.now)) c.counter_text.ensures c.after_bytes.ensures
