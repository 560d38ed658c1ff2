use Rattle.std.proofs.Common.{◌≡◌, false, map, IsTrue, take}
use Rattle.std.specs.List.{concat}
use Rattle.std.specs.Io.KnownBytes.{Appends}
use Rattle.command_runs.proofs.telling.tell.Given as goal

-- the parts so far are written
abbrev pub invariant-loop-part : goal.invariant-loop-part
invariant-loop-part g l = record {
  written : l.err.failed ≡ false → Appends l.fn.err.bytes l.err.bytes (concat (take l.part-index (map (λ p. p.now) l.parts)));
  silent : IsTrue l.fn.err.failed → l.err ≡ l.fn.err;
}
