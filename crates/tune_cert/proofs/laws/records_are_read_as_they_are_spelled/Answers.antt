use Rattle.std.proofs.Common.{true}
use Rattle.tune_cert.proofs.Statements.{with_floors, statement_read, statement_spelled, cert_read, cert_spelled, cert_malformed, malformed_read}
use Rattle.tune_cert.proofs.laws.records_are_read_as_they_are_spelled.Goals as goal

pub returns-clause-statement : goal.returns-clause-statement
returns-clause-statement c = λ records s. (statement_spelled true records s, λ h. rw h.1 (statement_read true s h.0 (with_floors s.answer)))

pub returns-clause-cert : goal.returns-clause-cert
returns-clause-cert c = λ records cert. (cert_spelled records cert, cert_read records cert)

pub returns-clause-fault : goal.returns-clause-fault
returns-clause-fault c = λ records n. (cert_malformed records n, malformed_read records n)
