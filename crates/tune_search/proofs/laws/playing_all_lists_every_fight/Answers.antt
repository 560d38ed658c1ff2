use Rattle.tune_search.proofs.PlayingAll.{all_copied, all_rows, fights_of_all}
use Rattle.tune_search.proofs.laws.playing_all_lists_every_fight.Goals as goal

pub returns-clause-rows : goal.returns-clause-rows
returns-clause-rows c = λ p aim f laws s. all_rows p aim f s laws

pub returns-clause-fights : goal.returns-clause-fights
returns-clause-fights c = λ p aim f laws s. fights_of_all p aim f s laws

pub returns-clause-copied : goal.returns-clause-copied
returns-clause-copied c = λ p aim f s. all_copied p aim f s
