use Rattle.std.proofs.Common.{◌≡◌, drop}
use Rattle.std.specs.List.{flat_map}
use Rattle.sa_ir.specs.Occurrences.{node_cells}
use Rattle.sa_ir.specs.Shown.{with_all}
use Rattle.sa_lower.specs.Occurring.{body_cells}
use Rattle.sa_lower.proofs.occurring.+nodes.Given as goal

abbrev pub invariant-add_nodes-loop-node : goal.invariant-add_nodes-loop-node
invariant-add_nodes-loop-node l = with_all l.cells.keys (flat_map node_cells (drop l.node-index l.nodes)) ≡ with_all l.initial.cells.keys (flat_map node_cells l.nodes)

abbrev pub invariant-add_groups-loop-group : goal.invariant-add_groups-loop-group
invariant-add_groups-loop-group l = with_all l.cells.keys (flat_map body_cells (drop l.group-index l.groups)) ≡ with_all l.initial.cells.keys (flat_map body_cells l.groups)
