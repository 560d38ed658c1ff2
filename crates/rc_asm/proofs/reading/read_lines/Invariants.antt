use Rattle.std.proofs.Common.{◌≡◌, length}
use Rattle.rc_asm.specs.Lines.{nothing_read, after_lines}
use Rattle.rc_asm.specs.Seen.{seen_names, seen_reading}
use Rattle.rc_asm.proofs.reading.read_lines.Given as goal

abbrev pub decreases-loop-line : goal.decreases-loop-line
decreases-loop-line l = length l.rest

-- the lines that are left make the whole
abbrev pub invariant-loop-line : goal.invariant-loop-line
invariant-loop-line l =
    after_lines l.source (seen_names l.context) l.lines nothing_read ≡ after_lines l.source (seen_names l.context) l.rest (seen_reading l.reading)
