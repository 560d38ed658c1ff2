use Rattle.rc_asm.proofs.LoadFile.Whole.{load_assembles}
use Rattle.rc_asm.proofs.laws.a_load_file_assembles_to_its_warrior.Goals as goal

pub returns : goal.returns
returns c = load_assembles
