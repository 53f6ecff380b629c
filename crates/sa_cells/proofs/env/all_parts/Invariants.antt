use Rattle.std.proofs.Common.{◌≡◌, drop}
use Rattle.sa_reference.specs.Environments.{all_parts}
use Rattle.sa_cells.proofs.env.all_parts.Given as goal

abbrev pub invariant-loop-k : goal.invariant-loop-k
invariant-loop-k l = all_parts (drop l.k l.a) (drop l.k l.b) ≡ all_parts l.a l.b
