use Rattle.std.proofs.Common.{◌≡◌, drop}
use Rattle.sa_reference.specs.Values.{joined}
use Rattle.sa_transfer.specs.Lists.{then_joined}
use Rattle.sa_transfer.proofs.values.joined.Given as goal

abbrev pub invariant-loop-k : goal.invariant-loop-k
invariant-loop-k l = then_joined l.so_far (joined l.spans (drop l.k-index l.ks)) ≡ joined l.spans l.ks
