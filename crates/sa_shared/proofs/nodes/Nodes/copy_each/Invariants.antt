use Rattle.std.proofs.Common.{take}
use Rattle.std.specs.List.{AllZip}
use Rattle.sa_shared.specs.Copies.{AreCopies, AreReached, IsSameList}
use Rattle.sa_shared.proofs.nodes.Nodes.copy_each.Given as goal

abbrev pub invariant-loop-root : goal.invariant-loop-root
invariant-loop-root g l = record {
  copies : AreCopies l.self l.nodes.items l.places;
  lists : AllZip (IsSameList l.self l.nodes.items l.slots) (take l.root-index l.roots) l.made.items;
  reached : AreReached l.self l.roots l.places;
}
