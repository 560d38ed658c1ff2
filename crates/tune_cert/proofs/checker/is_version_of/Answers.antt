use Rattle.std.proofs.Common.{refl}
use Rattle.tune_problem.specs.Problem.{problem_of}
use Rattle.tune_cert.proofs.ValidShares.{first_version, other_version}
use Rattle.tune_cert.proofs.checker.is_version_of.Goals as goal

pub returns-then-statement-eq1 : goal.returns-then-statement-eq1
returns-then-statement-eq1 c = first_version (problem_of c.args.inputs.now) c.args.statement.now.version c.cert_version.result _ c.if-statement-eq1.true c.cert_version.ensures refl

pub returns : goal.returns
returns c = other_version (problem_of c.args.inputs.now) c.args.statement.now.version c.if-statement-eq1.false
