use Rattle.tune_cert.proofs.WrittenBack.{written, written_statement}
use Rattle.tune_cert.proofs.laws.a_written_certificate_is_read.Goals as goal

pub returns-clause-statement : goal.returns-clause-statement
returns-clause-statement c = written_statement

pub returns-clause-cert : goal.returns-clause-cert
returns-clause-cert c = written
