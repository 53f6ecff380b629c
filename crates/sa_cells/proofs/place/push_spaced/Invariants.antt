use Rattle.std.proofs.Common.{◌≡◌, ◌+◌, ◌-◌, ◌*◌, ◌++◌}
use Rattle.sa_cells.specs.Reached.{spaced}
use Rattle.sa_cells.proofs.place.push_spaced.Given as goal

abbrev pub invariant-loop-k : goal.invariant-loop-k
invariant-loop-k l = l.all.items ++ spaced l.width (l.count - l.k) (l.from + l.k * l.width) ≡ l.initial.all.items ++ spaced l.width l.count l.from
