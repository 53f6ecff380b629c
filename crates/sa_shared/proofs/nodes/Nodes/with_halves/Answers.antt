use Rattle.sa_shared.proofs.Lists.{if_ok_on}
use Rattle.sa_shared.proofs.Unfolding.{forked, one_more}
use Rattle.sa_shared.proofs.nodes.Nodes.with_halves.Goals as goal

pub returns-clause-tree : goal.returns-clause-tree
returns-clause-tree g c =
    let a = c.args in
    if_ok_on c.push.result _ _ c.push.ensures.ok
    (λ n h. (forked a.self.now c.push.new.self a.slots a.new.0 a.new.1 n c.requires.some c.requires.left c.requires.right h.0 h.1).0)

pub returns-clause-list : goal.returns-clause-list
returns-clause-list g c =
    let a = c.args in
    if_ok_on c.push.result _ _ c.push.ensures.ok
    (λ n h. (forked a.self.now c.push.new.self a.slots a.new.0 a.new.1 n c.requires.some c.requires.left c.requires.right h.0 h.1).1)

pub returns-clause-nodes : goal.returns-clause-nodes
returns-clause-nodes g c = one_more c.push.result _ _ _ c.push.ensures.ok c.push.ensures.err
