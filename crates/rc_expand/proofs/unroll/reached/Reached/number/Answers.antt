use Rattle.std.proofs.Common.{sym, ◌∙◌, ap}
use Rattle.rc_expand.specs.declared.read.raw_line.RawLine.{RawLine}
use Rattle.rc_expand.specs.Unroll.Reached.{copies_in}
use Rattle.rc_expand.proofs.Unrolling.Reaching.{part_number}
use Rattle.rc_expand.proofs.unroll.reached.Reached.number.Goals as goal

pub returns : goal.returns
returns c = sym (part_number c.self.inside.source.now (copies_in c.self.inside.copies.items) c.self.inside.is_earlier c.self.inside.raw.now) ∙ ap (λ (h : RawLine). h.number) c.self.view_is
