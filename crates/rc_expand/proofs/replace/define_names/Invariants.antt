use Rattle.std.proofs.Common.{◌≡◌, length, map}
use Rattle.rc_text.specs.Symbols.{name_of}
use Rattle.rc_expand.specs.Contexts.{seen_context}
use Rattle.rc_expand.specs.NameTables.{names_in}
use Rattle.rc_expand.specs.Replace.Lines.{with_names}
use Rattle.rc_expand.proofs.replace.define_names.Given as goal

abbrev pub decreases-loop-label : goal.decreases-loop-label
decreases-loop-label l = length l.rest

-- the names that are left make the whole
abbrev pub invariant-loop-label : goal.invariant-loop-label
invariant-loop-label l =
    with_names (seen_context l.context) l.line (map (name_of l.context.source.now) l.labels) (names_in l.fn.names)
    ≡ with_names (seen_context l.context) l.line (map (name_of l.context.source.now) l.rest) (names_in l.names)
