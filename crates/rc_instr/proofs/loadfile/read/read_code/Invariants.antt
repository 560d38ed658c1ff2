use Rattle.std.proofs.Common.{◌≡◌, ◌+◌, ◌≤◌, length}
use Rattle.rc_instr.specs.LoadMeaning.{lines_at}
use Rattle.rc_instr.proofs.Loads.{after_code}
use Rattle.rc_instr.proofs.loadfile.read.read_code.Given as goal

-- the lines of all bytes are those read so far and those of the rest
abbrev pub invariant-loop-rest : goal.invariant-loop-rest
invariant-loop-rest l = record {
  so_far : lines_at l.core l.bytes ≡ after_code l.code.items (lines_at l.core l.rest);
  number : l.line ≡ 2 + length l.code.items;
  room : length l.code.items + length l.rest ≤ length l.bytes;
}

abbrev pub decreases-loop-rest : goal.decreases-loop-rest
decreases-loop-rest l = length l.rest
