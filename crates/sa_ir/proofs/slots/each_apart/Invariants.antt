use Rattle.std.proofs.Common.{◌≡◌, ◌++◌, drop}
use Rattle.std.specs.List.{flat_map}
use Rattle.sa_ir.specs.Slots.{apart}
use Rattle.sa_ir.proofs.slots.each_apart.Given as goal

abbrev pub invariant-loop-elements : goal.invariant-loop-elements
invariant-loop-elements l =
    l.all.items ++ flat_map (λ e. apart l.len l.row.width l.row.n 0 e) (drop l.elements-index l.arrays) ≡ flat_map (λ e. apart l.len l.row.width l.row.n 0 e) l.arrays
