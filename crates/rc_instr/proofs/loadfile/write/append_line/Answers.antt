use Rattle.std.proofs.Common.{append_assoc, rules}
use Rattle.std.proofs.lemmas.Result.{IfOk-equal}
use Rattle.rc_instr.specs.LoadText.{line_text}
use Rattle.rc_instr.proofs.Appends.{appends}
use Rattle.rc_instr.proofs.loadfile.write.append_line.Goals as goal

pub returns : goal.returns
unfolding line_text
returns c = (search (rules, IfOk-equal, append_assoc), search (rules, appends))
