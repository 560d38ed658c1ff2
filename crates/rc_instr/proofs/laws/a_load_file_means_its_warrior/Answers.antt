use Rattle.std.proofs.Common.{◌∙◌, ap}
use Rattle.rc_instr.specs.LoadMeaning.{load_meaning}
use Rattle.rc_instr.proofs.Loads.{means, spelled_as}
use Rattle.rc_instr.proofs.laws.a_load_file_means_its_warrior.Goals as goal

pub returns : goal.returns
returns c rules bytes w k = (λ e. spelled_as rules bytes w k e, λ h. ap (load_meaning rules) h.0 ∙ means rules w k h.1 h.2)
