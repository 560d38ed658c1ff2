use Rattle.std.proofs.Common.{◌∙◌, sym, subst, IsTrue}
use Rattle.std.specs.Io.KnownBytes.{Appends}
use Rattle.command_runs.proofs.Told.{appends_both, parts_next, worked_before}
use Rattle.command_runs.proofs.telling.tell.Goals as goal

pub loop-part-preserved : goal.loop-part-preserved
loop-part-preserved g c = record {
  written = λ works.
      let worked = worked_before (λ o. o.failed) c.loop-part.err c.tell_bytes.new.err c.tell_bytes.ensures.silent works in
      subst (Appends c.args.err.now.bytes c.tell_bytes.new.err.bytes) (parts_next (λ p. p.now) c.args.parts.now c.loop-part.part-index _ _ c.loop-part-test.true c.as_bytes.ensures.value)
      (appends_both _ c.loop-part.err.bytes _ _ _ (c.loop-part.invariant.written worked) (c.tell_bytes.ensures.written works));
  silent = λ lost.
      let same = c.loop-part.invariant.silent lost in
      c.tell_bytes.ensures.silent (subst (λ o. IsTrue o.failed) (sym same) lost) ∙ same;
}
