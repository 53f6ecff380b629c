use Rattle.std.proofs.Common.{◌≡◌, ◌++◌, ◌-◌}
use Rattle.sa_ir.specs.Occurrences.{every}
use Rattle.sa_lower.proofs.named.push_every.Given as goal

abbrev pub invariant-loop-turn : goal.invariant-loop-turn
invariant-loop-turn l = l.cells.items ++ every (l.n - l._turn) l.stride l.next ≡ l.initial.cells.items ++ every l.n l.stride l.first
