use Rattle.std.proofs.Common.{◌≡◌, drop}
use Rattle.sa_ir.specs.Slots.{any_past}
use Rattle.sa_ir.proofs.slots.any_past.Given as goal

abbrev pub invariant-loop-o : goal.invariant-loop-o
invariant-loop-o l = any_past l.len l.by (drop l.o-index l.at) ≡ any_past l.len l.by l.at
