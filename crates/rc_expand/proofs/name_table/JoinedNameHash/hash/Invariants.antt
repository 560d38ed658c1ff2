use Rattle.std.proofs.Common.{◌≡◌, drop}
use Rattle.std.specs.Prelude.{fold, flat_map}
use Rattle.std.specs.Hash as fed
use Rattle.rc_text.specs.Symbols.{counter_text}
use Rattle.rc_expand.specs.NameTables.{joined_name}
use Rattle.rc_expand.proofs.name_table.JoinedNameHash.hash.Given as goal

-- the counters that are left make the name whole
abbrev pub invariant-loop-counter : goal.invariant-loop-counter
invariant-loop-counter g l =
    fold g.H.Hasher.write l.fn.state (flat_map fed.u8 (joined_name l.self.bytes.now l.self.counters.now))
    ≡ fold g.H.Hasher.write l.state (flat_map fed.u8 (flat_map counter_text (drop l.counter-index l.self.counters.now)))
