use Rattle.std.proofs.Common.{map}
use Rattle.tune_runs.specs.TuneRun.{part_texts}
use Rattle.tune_runs.proofs.Tunings.{check_parted}
use Rattle.tune_runs.proofs.check.check_run.Goals as goal

pub returns-clause-whole : goal.returns-clause-whole
returns-clause-whole g c = check_parted _
    (part_texts c.args.template.now (map (λ o. o.items) c.args.opponents.now) c.args.schedule.now c.args.rules.now c.whole.result) _ c.args.cert.now _ _ c.whole.ensures c.check_for_run.ensures.run.refused
