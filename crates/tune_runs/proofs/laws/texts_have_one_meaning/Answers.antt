use Rattle.std.proofs.Common.{inl, inr}
use Rattle.tune_runs.proofs.Meaning.{one_meaning}
use Rattle.tune_runs.proofs.TextFaults.{text_fault}
use Rattle.tune_runs.proofs.laws.texts_have_one_meaning.Goals as goal

pub returns-clause-one : goal.returns-clause-one
returns-clause-one c = one_meaning

pub returns-clause-faults : goal.returns-clause-faults
returns-clause-faults c = λ t e h. elim (text_fault t e h) [ inl texts ↦ inl texts | inr part ↦ inr part.is ]
