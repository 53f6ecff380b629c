use Rattle.std.proofs.Common.{◌<◌, reverse}
use Rattle.sa_shared.specs.Tree.{IsTree, tree_at}
use Rattle.sa_shared.specs.Way.{IsWay}
use Rattle.sa_shared.proofs.nodes.Nodes.way.Given as goal

abbrev pub invariant-down : goal.invariant-down
invariant-down g l = record {
  tree : IsTree l.self l.width l.number;
  within : l.place < l.width;
  leads : IsWay l.self l.slots (tree_at l.self l.root) l.slot (reverse l.way.items) l.width (tree_at l.self l.number) l.place;
}

abbrev pub decreases-down : goal.decreases-down
decreases-down g l = l.width
