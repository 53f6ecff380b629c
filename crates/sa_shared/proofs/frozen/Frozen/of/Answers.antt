use Rattle.std.proofs.Common.{rules, ◌≡◌, length}
use Rattle.sa_shared.proofs.Forests.{of_list, of_valid}
use Rattle.sa_shared.proofs.frozen.Frozen.of.Goals as goal

pub invariant_of-result : goal.invariant_of-result
invariant_of-result g c =
    let slots : c.in-Ok.slots ≡ length c.args.list.items = search rules in
    let is = of_list c.in-Ok.slots c.in_ok-node.node c.build.new.nodes.items c.args.list.items c.build.new.list.items c.in_ok-node.ensures.tree
    c.in_ok-node.ensures.list slots in
    of_valid g.T.Slot.like c.in-Ok.slots c.in_ok-node.node c.build.new.nodes.items c.args.list.items c.in_ok-node.ensures.tree is c.requires.valid

pub returns-clause-list : goal.returns-clause-list
returns-clause-list g c =
    let slots : c.in-Ok.slots ≡ length c.args.list.items = search rules in
    of_list c.in-Ok.slots c.in_ok-node.node c.build.new.nodes.items c.args.list.items c.build.new.list.items c.in_ok-node.ensures.tree
    c.in_ok-node.ensures.list slots

pub returns-clause-root : goal.returns-clause-root
returns-clause-root g c =
    let slots : c.in-Ok.slots ≡ length c.args.list.items = search rules in
    let is = of_list c.in-Ok.slots c.in_ok-node.node c.build.new.nodes.items c.args.list.items c.build.new.list.items c.in_ok-node.ensures.tree
    c.in_ok-node.ensures.list slots in
    of_valid g.T.Slot.like c.in-Ok.slots c.in_ok-node.node c.build.new.nodes.items c.args.list.items c.in_ok-node.ensures.tree is c.requires.valid
