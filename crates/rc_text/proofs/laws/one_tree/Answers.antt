use Rattle.rc_text.proofs.OneTree.{one_tree}
use Rattle.rc_text.proofs.laws.one_tree.Goals as goal

pub returns : goal.returns
returns c = one_tree
