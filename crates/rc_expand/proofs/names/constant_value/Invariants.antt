use Rattle.std.proofs.Common.{◌≡◌, drop}
use Rattle.rc_text.specs.Symbols.{name_of}
use Rattle.rc_expand.specs.Names.{entry_of, table_of, table_in}
use Rattle.rc_expand.proofs.names.constant_value.Given as goal

abbrev pub invariant-loop-i : goal.invariant-loop-i
invariant-loop-i l =
    entry_of (table_in l.constants) (name_of l.source l.token)
    ≡ entry_of (table_of (drop l.i l.constants.names.now) (drop l.i l.constants.values.now)) (name_of l.source l.token)
