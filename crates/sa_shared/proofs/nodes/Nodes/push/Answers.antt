use Rattle.std.proofs.Common.{◌++◌, subst}
use Rattle.sa_shared.specs.Tree.{Extends}
use Rattle.sa_shared.proofs.nodes.Nodes.push.Goals as goal

pub returns-clause-older : goal.returns-clause-older
returns-clause-older g c =
    let base = c.self.inside.base.now in
    subst (λ old. Extends old (base ++ c.push_node.new.nodes.items)) c.self.view_is c.push_node.ensures.older
