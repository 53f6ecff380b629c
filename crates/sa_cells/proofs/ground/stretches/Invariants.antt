use Rattle.std.proofs.Common.{◌≡◌, ◌++◌, drop}
use Rattle.sa_cells.specs.Stretches.{stretches, next_at}
use Rattle.sa_cells.proofs.ground.stretches.Given as goal

abbrev pub invariant-loop-k : goal.invariant-loop-k
invariant-loop-k l = record {
  whole : l.all.items ++ stretches l.program l.k (drop l.k l.vars) ≡ stretches l.program 0 l.vars;
  next : l.next ≡ next_at l.program l.k;
}
