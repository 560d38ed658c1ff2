use Rattle.tune_cert.proofs.Statements.{one_spelled}
use Rattle.tune_cert.proofs.laws.records_spell_at_most_one_certificate.Goals as goal

pub returns : goal.returns
returns c = one_spelled
