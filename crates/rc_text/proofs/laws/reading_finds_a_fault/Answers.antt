use Rattle.rc_text.proofs.Evaluation.{fault_of_evaluation}
use Rattle.rc_text.proofs.laws.reading_finds_a_fault.Goals as goal

pub returns : goal.returns
returns c = fault_of_evaluation
