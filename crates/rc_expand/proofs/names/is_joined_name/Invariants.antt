use Rattle.std.proofs.Common.{◌≡◌, drop}
use Rattle.std.specs.Prelude.{flat_map}
use Rattle.std.specs.Str.{bytes_eq}
use Rattle.rc_text.specs.Symbols.{counter_text}
use Rattle.rc_expand.specs.NameTables.{joined_name}
use Rattle.rc_expand.proofs.names.is_joined_name.Given as goal

abbrev pub invariant-loop-counter : goal.invariant-loop-counter
invariant-loop-counter l = bytes_eq (joined_name l.bytes l.counters) l.name ≡ bytes_eq (flat_map counter_text (drop l.counter-index l.counters)) l.rest
