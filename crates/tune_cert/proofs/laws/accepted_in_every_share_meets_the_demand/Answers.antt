use Rattle.tune_problem.specs.Parts.{part}
use Rattle.tune_cert.proofs.Demands.{whole_of_shares, share_of_whole}
use Rattle.tune_cert.proofs.laws.accepted_in_every_share_meets_the_demand.Goals as goal

pub returns : goal.returns
returns c = λ p shares demand s some. (whole_of_shares p demand s shares some, λ whole n low high. share_of_whole p demand s whole (part n shares))
