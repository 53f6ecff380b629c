use Rattle.std.proofs.Common.{◌≡◌, length}
use Rattle.sa_ir.specs.Spots.{StandFor}
use Rattle.sa_ir.proofs.slots.cores.Given as goal

abbrev pub invariant-loop-k : goal.invariant-loop-k
invariant-loop-k l = record { long : length l.cores.items ≡ l.k; each : StandFor l.program.structs l.cores.items }
