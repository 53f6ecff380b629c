use Rattle.std.proofs.Common.{◌∙◌, ap}
use Rattle.sa_ir.specs.declared.node.IrGroup.{IrGroup}
use Rattle.sa_ir.specs.declared.node.Node.{Node}
use Rattle.sa_ir.specs.Occurrences.{node_cells}
use Rattle.sa_ir.specs.Shown.{with_all}
use Rattle.sa_lower.specs.Occurring.{body_cells}
use Rattle.sa_lower.proofs.Lists.{each_more, each_end}
use Rattle.sa_lower.proofs.occurring.+nodes.Goals as goal

pub add_nodes-loop-node-preserved : goal.add_nodes-loop-node-preserved
add_nodes-loop-node-preserved t c =
    let ks = c.loop-node.cells.keys in
    each_more node_cells ks _ _ c.args.nodes.now c.loop-node.node-index c.node-item.result c.loop-node-test.true
    (c.in_ok-add_node.ensures ∙ ap (λ (x : Node). with_all ks (node_cells x)) c.node-item.is) c.loop-node.invariant

pub add_nodes-returns : goal.add_nodes-returns
add_nodes-returns t c = each_end node_cells c.loop-node.cells.keys _ c.args.nodes.now c.loop-node.node-index c.loop-node-test.false c.loop-node.invariant

pub add_groups-loop-group-preserved : goal.add_groups-loop-group-preserved
add_groups-loop-group-preserved t c =
    let ks = c.loop-group.cells.keys in
    each_more body_cells ks _ _ c.args.groups.now c.loop-group.group-index c.group-item.result c.loop-group-test.true
    (c.in_ok-add_node.ensures ∙ ap (λ (x : Node). with_all ks (node_cells x)) c.get.ensures ∙ ap (λ (x : IrGroup). with_all ks (body_cells x)) c.group-item.is) c.loop-group.invariant

pub add_groups-returns : goal.add_groups-returns
add_groups-returns t c = each_end body_cells c.loop-group.cells.keys _ c.args.groups.now c.loop-group.group-index c.loop-group-test.false c.loop-group.invariant
