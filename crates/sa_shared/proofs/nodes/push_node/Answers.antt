use Rattle.sa_shared.proofs.Unfolding.{extends_if}
use Rattle.sa_shared.proofs.nodes.push_node.Goals as goal

pub returns-clause-older : goal.returns-clause-older
returns-clause-older g c = extends_if _ _ _ _ _ c.push.ensures.items
