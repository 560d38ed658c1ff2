use Rattle.std.proofs.Common.{◌∙◌, ap, refl}
use Rattle.rc_instr.specs.LoadReaders.{line_at, start_at}
use Rattle.rc_instr.specs.LoadMeaning.{lines_at}
use Rattle.rc_instr.proofs.LoadReading.{line_read, line_is, start_read, start_is}
use Rattle.rc_instr.proofs.Loads.{lines_are, lines_read}
use Rattle.rc_instr.proofs.laws.lines_are_read_as_they_are_written.Goals as goal

pub returns-clause-start : goal.returns-clause-start
returns-clause-start c bytes rest n = (start_is bytes n rest, λ h. ap start_at h.0 ∙ start_read n rest h.1)

pub returns-clause-line : goal.returns-clause-line
returns-clause-line c m bytes rest i k =
    (λ e. (let l = line_is m bytes i rest k.0 e in (l.text, l.below)), λ h. ap (line_at m) h.0 ∙ line_read m i rest k.1 h.1)

pub returns-clause-lines : goal.returns-clause-lines
returns-clause-lines c m code rest k h e = lines_read m code rest k.0 k.1 h e

pub returns-clause-read : goal.returns-clause-read
returns-clause-read c m bytes k = let l = lines_are m bytes (lines_at m bytes) k.0 refl in (l.text, l.below, l.none)
