use Rattle.tune_runs.proofs.Repeats.{same_bytes}
use Rattle.tune_runs.proofs.laws.equal_tunings_write_equal_bytes.Goals as goal

pub returns : goal.returns
returns c = λ t aim. same_bytes aim t
