use Rattle.std.proofs.Common.{◌≡◌, ap, ◌∙◌, map, true}
use Rattle.mars_core.specs.Store.{counts_as_marked}
use Rattle.mars_core.proofs.Stores.{packed_set, marked_is}
use Rattle.mars_core.proofs.Marks.{mark_set}
use Rattle.mars_core.proofs.packed_cells.put.Goals as goal

pub returns-then-is_open-clause-marked : goal.returns-then-is_open-clause-marked
returns-then-is_open-clause-marked c =
    let marked = marked_is c.args.cell.word c.marked.result.word c.marked.ensures in
    let counts : counts_as_marked c.args.is_open c.marked.result.word ≡ true = ap (λ b. counts_as_marked b c.marked.result.word) c.if-is_open.true ∙ marked in
    ap (map (counts_as_marked c.args.is_open)) c.record.ensures.words ∙ mark_set (counts_as_marked c.args.is_open) c.args.words.now.items c.args.at c.marked.result.word counts

pub returns-else-is_open-clause-store : goal.returns-else-is_open-clause-store
returns-else-is_open-clause-store c = packed_set _ _ _ _ _ _ c.requires.store c.if-is_open.false c.args.cell.classed

pub returns-else-is_open-clause-marked : goal.returns-else-is_open-clause-marked
returns-else-is_open-clause-marked c =
    let counts : counts_as_marked c.args.is_open c.args.cell.word ≡ true = ap (λ b. counts_as_marked b c.args.cell.word) c.if-is_open.false in
    mark_set (counts_as_marked c.args.is_open) c.args.words.now.items c.args.at c.args.cell.word counts
