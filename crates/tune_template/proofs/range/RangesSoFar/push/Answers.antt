use Rattle.std.proofs.Common.{refl}
use Rattle.tune_template.specs.Steps.{seen_ranges}
use Rattle.tune_template.proofs.Counts.{counted_more}
use Rattle.tune_template.proofs.range.RangesSoFar.push.Goals as goal

pub returns-clause-counted : goal.returns-clause-counted
returns-clause-counted c =
    counted_more (seen_ranges c.args.self.now) c.args.self.now.count _ c.args.self.now.names.items _ _ c.args.span _ c.in_ok-push.ensures.items c.in_ok-push-2.ensures.items refl c.requires.counted c.requires.room c.requires.values refl c.requires.few
