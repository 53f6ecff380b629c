use Rattle.std.proofs.Common.{◌≡◌, drop}
use Rattle.sa_reference.specs.Assignments.{weakly}
use Rattle.sa_transfer.proofs.cells.join_all.Given as goal

abbrev pub invariant-loop-k : goal.invariant-loop-k
invariant-loop-k l = weakly (drop l.k-index l.ks) l.s l.spans ≡ weakly l.ks l.s l.initial.spans
