use Rattle.tune_cert.proofs.Demands.{met_if_accepted, accepted_if_met}
use Rattle.tune_cert.proofs.laws.a_demand_is_met.Goals as goal

pub returns : goal.returns
returns c = λ p demand s laws. (met_if_accepted p laws demand s, accepted_if_met p laws demand s)
