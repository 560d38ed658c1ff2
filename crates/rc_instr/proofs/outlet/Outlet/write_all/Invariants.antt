use Rattle.std.proofs.Common.{◌≡◌, ◌<◌, ◌≤◌, ◌-◌, length, take, false}
use Rattle.std.specs.Io.KnownBytes.{Appends}
use Rattle.rc_instr.proofs.outlet.Outlet.write_all.Given as goal

abbrev pub invariant-loop-sent : goal.invariant-loop-sent
invariant-loop-sent g l = record {
  works : l.self.failed ≡ false;
  flushed : 0 < l.sent → l.self.flushed ≡ false;
  within : l.sent ≤ length l.text;
  written : Appends l.fn.self.bytes l.self.bytes (take l.sent l.text);
}

abbrev pub decreases-loop-sent : goal.decreases-loop-sent
decreases-loop-sent g l = length l.text - l.sent
