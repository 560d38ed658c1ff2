use Rattle.std.proofs.Common.{Err, ap, inl, ◌∙◌}
use Rattle.std.proofs.lemmas.Result.{err_from_is_err_and}
use Rattle.tune_runs.specs.Given.{texts_given}
use Rattle.tune_runs.proofs.Endings.{refused_tuning, search_other, search_refused}
use Rattle.tune_runs.proofs.tune.tune_for_run.Goals as goal

pub returns-in_err-inputs : goal.returns-in_err-inputs
returns-in_err-inputs g c =
    let p = err_from_is_err_and c.from_residual.result c.from_residual.ensures.1 in
    record {
      run = refused_tuning _ _ c.in_err-inputs.field-0.0 (texts_given c.args.given.now) _ _ _ (p.1 ∙ ap (λ e. Err e) p.2)
          c.requires.outlets.0 c.requires.outlets.1 c.in_err-inputs.ensures.0 (λ known. inl (c.in_err-inputs.ensures.1 known));
    }

pub returns-in_err-found : goal.returns-in_err-found
returns-in_err-found g c =
    let p = err_from_is_err_and c.from_residual-in_err-found.result c.from_residual-in_err-found.ensures.1 in
    record {
      run = refused_tuning _ _ c.in_err-found.field-0.0 (texts_given c.args.given.now) _ _ _ (p.1 ∙ ap (λ e. Err e) p.2)
          c.requires.outlets.0 c.requires.outlets.1 (search_other c.in_err-found.field-0.0 _ c.in_err-found.ensures.none)
          (search_refused c.in_err-found.field-0.0 (texts_given c.args.given.now) c.in_ok-inputs.inputs c.in_ok-inputs.ensures c.in_err-found.ensures.none);
    }
