use Rattle.std.proofs.Common.{◌≡◌, take}
use Rattle.sa_shared.specs.Forest.{list_of}
use Rattle.sa_env.proofs.shop.copies.Given as goal

abbrev pub invariant-loop-slot : goal.invariant-loop-slot
invariant-loop-slot l = l.slots.items ≡ take l.slot (list_of l.layer l.root)
