use Rattle.rc_asm.proofs.Outcomes.{computed, assembles}
use Rattle.rc_asm.proofs.laws.assembly_is_computed.Goals as goal

pub returns : goal.returns
returns c source constants rules w = (computed source constants rules w, assembles source constants rules w)
