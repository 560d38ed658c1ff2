use Rattle.std.proofs.Common.{◌≡◌, ◌++◌, drop}
use Rattle.std.specs.Prelude.{flat_map}
use Rattle.rc_expand.proofs.replace.finish.as_code_tokens.Given as goal

abbrev pub invariant-loop-label : goal.invariant-loop-label
invariant-loop-label l = flat_map (λ x. x) l.others ≡ l.all.items ++ flat_map (λ x. x) (drop l.label-index l.others)
