use Rattle.tune_cert.proofs.PlainChecks.{accepts_valid, valid_accepts}
use Rattle.tune_cert.proofs.ValidShares.{valid_of_shares, valid_in_shares}
use Rattle.tune_problem.specs.Parts.{part}
use Rattle.tune_cert.proofs.laws.accepted_in_every_share_is_valid.Goals as goal

pub returns-clause-accepted : goal.returns-clause-accepted
returns-clause-accepted c = λ p share cert. (accepts_valid p share cert, valid_accepts p share cert)

pub returns-clause-shares : goal.returns-clause-shares
returns-clause-shares c = λ p shares cert laws some. (valid_of_shares p cert shares some, λ valid number one within. valid_in_shares p cert laws valid (part number shares))
