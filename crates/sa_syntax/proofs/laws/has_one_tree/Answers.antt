use Rattle.sa_syntax.proofs.UnitComplete.{one-tree}
use Rattle.sa_syntax.proofs.laws.has_one_tree.Goals as goal

pub returns : goal.returns
returns c = one-tree
