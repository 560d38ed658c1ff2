use Rattle.std.proofs.Common.{◌∙◌, ap}
use Rattle.std.specs.Prelude.{unwrap_or}
use Rattle.std.proofs.lemmas.Option.{unwrap_or-slice_get}
use Rattle.mars_core.proofs.tasks.task_at.Goals as goal

pub returns : goal.returns
returns g c = c.unwrap_or.ensures ∙ ap (λ o. unwrap_or o 0) c.get.ensures ∙ unwrap_or-slice_get (g.Q.Tasks.held c.args.tasks.now).items c.args.index 0
