use Rattle.std.proofs.Common.{◌≡◌, ◌-◌, ◌++◌}
use Rattle.sa_ir.specs.Slots.{apart}
use Rattle.sa_ir.proofs.slots.push_apart.Given as goal

abbrev pub invariant-loop-k : goal.invariant-loop-k
invariant-loop-k l = l.all.items ++ apart l.len l.row.width (l.row.n - l.k) l.k l.elements ≡ l.initial.all.items ++ apart l.len l.row.width l.row.n 0 l.elements
