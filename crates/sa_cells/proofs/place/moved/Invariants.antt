use Rattle.std.proofs.Common.{◌≡◌, ◌+◌, ◌++◌, drop, map}
use Rattle.sa_cells.proofs.place.moved.Given as goal

abbrev pub invariant-loop-first : goal.invariant-loop-first
invariant-loop-first l = l.all.items ++ map (λ o. o + l.by) (drop l.first-index l.firsts) ≡ map (λ o. o + l.by) l.firsts
