use Rattle.std.proofs.Common.{◌≡◌, ◌++◌, drop}
use Rattle.std.specs.List.{flat_map}
use Rattle.sa_cells.specs.Reached.{picked}
use Rattle.sa_cells.proofs.place.picked.Given as goal

abbrev pub invariant-loop-first : goal.invariant-loop-first
invariant-loop-first l = l.all.items ++ flat_map (λ o. picked l.fn.span l.width l.fn.n 0 o) (drop l.first-index l.firsts) ≡ flat_map (λ o. picked l.fn.span l.width l.fn.n 0 o) l.firsts
