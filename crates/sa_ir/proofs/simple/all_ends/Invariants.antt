use Rattle.std.proofs.Common.{◌≡◌, ◌++◌, map, drop}
use Rattle.sa_ir.specs.Indices.{slot_ends}
use Rattle.sa_ir.proofs.simple.all_ends.Given as goal

abbrev pub invariant-loop-slot : goal.invariant-loop-slot
invariant-loop-slot l = l.ends ++ map slot_ends (drop l.slot-index l.slots) ≡ map slot_ends l.slots
