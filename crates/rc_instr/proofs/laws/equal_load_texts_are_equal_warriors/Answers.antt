use Rattle.rc_instr.proofs.Loads.{one_warrior}
use Rattle.rc_instr.proofs.laws.equal_load_texts_are_equal_warriors.Goals as goal

pub returns : goal.returns
returns c = one_warrior
