use Rattle.tune_search.proofs.Unique.{recent_one}
use Rattle.tune_search.proofs.laws.visits_determine_the_recent_settings.Goals as goal

pub returns : goal.returns
returns c = record { recent = recent_one }
