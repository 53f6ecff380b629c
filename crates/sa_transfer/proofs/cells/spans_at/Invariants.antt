use Rattle.std.proofs.Common.{◌≡◌, ◌++◌, drop}
use Rattle.sa_transfer.specs.Lists.{spans_at}
use Rattle.sa_transfer.proofs.cells.spans_at.Given as goal

abbrev pub invariant-loop-k : goal.invariant-loop-k
invariant-loop-k l = l.all.items ++ spans_at l.spans (drop l.k-index l.ks) ≡ spans_at l.spans l.ks
