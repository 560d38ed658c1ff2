use Rattle.tune_problem.specs.Problem.{problem_of}
use Rattle.tune_runs.proofs.Endings.{search_ended}
use Rattle.tune_runs.proofs.tune.find.Goals as goal

pub returns-in_err-searched-clause-none : goal.returns-in_err-searched-clause-none
returns-in_err-searched-clause-none g c =
    search_ended c.from_residual.result (problem_of c.args.inputs.now) c.in_err-searched.field-0.0 c.from_residual.ensures.1 c.in_err-searched.ensures
