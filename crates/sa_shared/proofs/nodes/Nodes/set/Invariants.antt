use Rattle.std.proofs.Common.{◌≡◌, ◌+◌, ◌≤◌, ℕ, length, reverse}
use Rattle.std.specs.Prelude.{slice_set}
use Rattle.sa_shared.specs.Tree.{Tree, IsTree, tree_at, values, way_length, Extends}
use Rattle.sa_shared.specs.Way.{IsWay}
use Rattle.sa_shared.proofs.nodes.Nodes.set.Given as goal

abbrev pub invariant-up : goal.invariant-up
invariant-up g l = record {
  older : Extends l.fn.self l.self;
  few : length l.self + length l.way.items ≤ length l.fn.self + way_length (tree_at l.fn.self l.root) l.slot;
  part : (m : ℕ) × (part : Tree g.row.T.Denot) × (k : ℕ) × IsWay l.fn.self l.slots (tree_at l.fn.self l.root) l.slot (reverse l.way.items) m part k
      × IsTree l.self m l.made × (values (tree_at l.self l.made) ≡ slice_set (values part) k l.fn.value);
}

abbrev pub decreases-up : goal.decreases-up
decreases-up g l = length l.way.items
