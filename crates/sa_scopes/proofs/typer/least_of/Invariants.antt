use Rattle.std.proofs.Common.{◌≡◌, take, None}
use Rattle.std.specs.List.{fold}
use Rattle.sa_scopes.specs.Refusals.{with_fault}
use Rattle.sa_scopes.proofs.typer.least_of.Given as goal

abbrev pub invariant-loop-fault : goal.invariant-loop-fault
invariant-loop-fault l = l.least ≡ fold with_fault None (take l.fault-index l.faults)
