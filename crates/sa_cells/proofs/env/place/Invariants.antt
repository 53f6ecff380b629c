use Rattle.std.proofs.Common.{◌≡◌, ◌+◌, ◌++◌, take, drop}
use Rattle.sa_cells.proofs.env.place.Given as goal

abbrev pub invariant-loop-k : goal.invariant-loop-k
invariant-loop-k l = l.spans ≡ take l.first l.initial.spans ++ (take l.k l.new ++ drop (l.first + l.k) l.initial.spans)
