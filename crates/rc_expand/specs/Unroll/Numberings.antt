-- How contracts see what a copy of a block puts in.
use Rattle.rc_expand.specs.declared.unroll.copy.Numbering.{Numbering}
use Rattle.rc_expand.specs.Unroll.Copies.{NumberingView, numbering_by}

abbrev pub seen_numbering : Numbering → NumberingView
seen_numbering n = numbering_by n.source.now n.counter.now n.number
