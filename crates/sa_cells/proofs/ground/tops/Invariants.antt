use Rattle.std.proofs.Common.{◌≡◌, ◌++◌, drop, map}
use Rattle.sa_operators.specs.Operators.{range_of}
use Rattle.sa_cells.proofs.ground.tops.Given as goal

abbrev pub invariant-loop-slot : goal.invariant-loop-slot
invariant-loop-slot l = l.tops.items ++ map (λ s. range_of s.num) (drop l.slot-index l.slots) ≡ map (λ s. range_of s.num) l.slots
