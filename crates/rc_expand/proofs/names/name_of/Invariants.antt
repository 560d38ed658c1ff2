use Rattle.std.proofs.Common.{◌≡◌, ◌++◌, drop}
use Rattle.std.specs.Prelude.{flat_map}
use Rattle.rc_text.specs.Symbols.{name_of, counter_text}
use Rattle.rc_expand.proofs.names.name_of.Given as goal

-- the counters that are left make the name whole
abbrev pub invariant-loop-counter : goal.invariant-loop-counter
invariant-loop-counter l = l.name.items ++ flat_map counter_text (drop l.counter-index l.token.joined) ≡ name_of l.source l.token
