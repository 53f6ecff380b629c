use Rattle.std.proofs.Common.{◌≡◌, ◌++◌, drop, map}
use Rattle.sa_cells.proofs.ground.stars.Given as goal

abbrev pub invariant-loop-slot : goal.invariant-loop-slot
invariant-loop-slot l = l.stars.items ++ map (λ s. s.starred) (drop l.slot-index l.slots) ≡ map (λ s. s.starred) l.slots
