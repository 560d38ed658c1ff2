use Rattle.std.proofs.Common.{◌∙◌, sym, subst}
use Rattle.tune_problem.specs.Problem.{problem_of}
use Rattle.tune_search.specs.Found.{IsSearch}
use Rattle.tune_search.specs.Findings.{IsBestFrom, found_of}
use Rattle.tune_search.specs.declared.method.Method.TheVariants.{Dropping}
use Rattle.tune_problem.proofs.WholeOfParts.{none_below}
use Rattle.tune_search.proofs.Finish.{as_found}
use Rattle.tune_search.proofs.Floors.{mapped_some, unmapped}
use Rattle.tune_search.proofs.tuning.search.Goals as goal
use Rattle.tune_problem.specs.Ranking.{first_of}

pub returns-in-None : goal.returns-in-None
returns-in-None c =
    let p = problem_of c.args.inputs.now in
    let f = c.in_ok-findings.findings in
    λ same. none_below p (subst (IsBestFrom p 0) (unmapped (found_of f) (first_of f.ranking) (sym c.in-None.is ∙ c.into_found.ensures)) c.in_ok-findings.ensures.0.best)

pub returns-in-Some : goal.returns-in-Some
returns-in-Some c =
    let p = problem_of c.args.inputs.now in
    let f = c.in_ok-findings.findings in
    let h = mapped_some (found_of f) (first_of f.ranking) c.in-Some.found (sym c.in-Some.is ∙ c.into_found.ensures) in
    subst (IsSearch p (Dropping c.args.capacity)) (sym h.2) (as_found p (Dropping c.args.capacity) f h.0 h.1 c.in_ok-findings.ensures.0)
