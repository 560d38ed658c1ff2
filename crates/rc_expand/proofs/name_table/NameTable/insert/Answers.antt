use Rattle.std.proofs.Common.{◌∙◌, ap, sym, ◌+◌}
use Rattle.std.specs.Prelude.{is_some, if◌then◌else◌}
use Rattle.indexmap.specs.IndexMap.{index_map_len}
use Rattle.indexmap.specs.Entry.{entry_value}
use Rattle.rc_expand.proofs.Reading.TableFound.{kept_first, longer_if_new}
use Rattle.rc_expand.proofs.name_table.NameTable.insert.Goals as goal

pub returns-clause-added : goal.returns-clause-added
returns-clause-added g c =
    let e = c.in_ok-self-inside.field-0 in
    let v = c.or_insert.result.now in
    let given = c.self-3-1.given.1 (sym c.in_ok-self-inside.ensures.same_map) in
    longer_if_new c.args.name c.self.inside.entries.entries c.args.self.now c.len-before.result c.len.result (entry_value e) c.self.view_is
    (c.len.ensures.len ∙ (ap index_map_len given ∙ (c.in_ok-self-inside.ensures.len v ∙ ap (λ n. n + (if is_some (entry_value e) then 0 else 1)) (sym c.len-before.ensures.len)))) c.in_ok-self-inside.ensures.value

pub returns-clause-table : goal.returns-clause-table
returns-clause-table g c =
    let e = c.in_ok-self-inside.field-0 in
    let v = c.or_insert.result.now in
    let given = c.self-3-1.given.1 (sym c.in_ok-self-inside.ensures.same_map) in
    kept_first c.args.name c.self.inside.entries.entries c.args.self.now _ c.args.value v (entry_value e) c.self.view_is
    (ap (λ m. m.entries) given ∙ c.in_ok-self-inside.ensures.update.1 v) c.or_insert.ensures.value c.in_ok-self-inside.ensures.value
