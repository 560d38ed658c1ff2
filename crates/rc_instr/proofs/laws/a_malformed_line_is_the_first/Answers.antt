use Rattle.std.proofs.Common.{refl}
use Rattle.rc_instr.specs.LoadMeaning.{load_meaning}
use Rattle.rc_instr.proofs.Loads.{first_line, later_line, line_later, code_line, line_code}
use Rattle.rc_instr.proofs.laws.a_malformed_line_is_the_first.Goals as goal

pub returns-clause-start : goal.returns-clause-start
unfolding load_meaning
returns-clause-start c rules bytes = (first_line rules bytes, λ e. rw e refl)

pub returns-clause-later : goal.returns-clause-later
returns-clause-later c rules bytes lines start line s = (later_line rules bytes lines start line s, line_later rules bytes lines start line s)

pub returns-clause-code : goal.returns-clause-code
returns-clause-code c m n lines = (code_line m n lines, λ h. line_code m n lines h.0 h.1)
