use Rattle.std.proofs.Common.{◌≡◌, ◌++◌, drop}
use Rattle.sa_interval.specs.Rows.{join_of}
use Rattle.sa_reference.specs.Environments.{zip}
use Rattle.sa_cells.proofs.env.joined_cells.Given as goal

abbrev pub invariant-loop-k : goal.invariant-loop-k
invariant-loop-k l = l.cells.items ++ zip join_of (drop l.k l.a) (drop l.k l.b) ≡ zip join_of l.a l.b
