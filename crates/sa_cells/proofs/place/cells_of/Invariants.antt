use Rattle.std.proofs.Common.{◌≡◌, ◌++◌, drop}
use Rattle.std.specs.List.{flat_map}
use Rattle.sa_cells.specs.Reached.{spaced}
use Rattle.sa_cells.proofs.place.cells_of.Given as goal

abbrev pub invariant-loop-first : goal.invariant-loop-first
invariant-loop-first l = l.all.items ++ flat_map (λ o. spaced 1 l.cells o) (drop l.first-index l.firsts) ≡ flat_map (λ o. spaced 1 l.cells o) l.firsts
