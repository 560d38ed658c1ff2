use Rattle.std.proofs.Common.{[], ◌∷◌, arith, ◌∙◌, ap}
use Rattle.std.specs.Prelude.{unwrap_or}
use Rattle.std.proofs.lemmas.Option.{unwrap_or-slice_get}
use Rattle.mars_core.specs.Queue.{Queue, queue_with}
use Rattle.mars_core.proofs.Queues.{next_copied}
use Rattle.mars_core.proofs.tasks.Tasks.copy_from.Goals as goal

-- one task more
pub loop-index-preserved : goal.loop-index-preserved
loop-index-preserved g c =
    let tasks = (g.Self.Tasks.held c.args.other.now).items in
    let task = c.from.ensures ∙ c.unwrap_or.ensures ∙ ap (λ o. unwrap_or o 0) c.get.ensures ∙ unwrap_or-slice_get tasks c.loop-index.index 0 in
    record {
      held = c.append.ensures.tasks ∙ ap (λ (q : Queue). queue_with q (c.from.result ∷ [])) c.loop-index.invariant.held
          ∙ next_copied tasks _ c.loop-index.index c.from.result (omega arith) c.requires task;
    }
