use Rattle.std.proofs.Common.{◌∙◌}
use Rattle.rc_text.specs.Symbols.{name_of}
use Rattle.rc_expand.specs.NameTables.{joined_name}
use Rattle.rc_expand.proofs.Reading.TableFound.{finds}
use Rattle.rc_expand.proofs.name_table.NameTable.get.Goals as goal

pub returns : goal.returns
returns g c =
    c.get.ensures.value
    ∙ finds (name_of c.args.source.now c.args.token.now) c.self.inside.entries.entries c.args.self.now (joined_name c.key_of.result.bytes.now c.key_of.result.counters.now) c.self.view_is c.key_of.ensures
