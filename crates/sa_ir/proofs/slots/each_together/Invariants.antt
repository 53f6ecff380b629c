use Rattle.std.proofs.Common.{◌≡◌, ◌++◌, drop, map}
use Rattle.sa_ir.specs.Slots.{together}
use Rattle.sa_ir.proofs.slots.each_together.Given as goal

abbrev pub invariant-loop-elements : goal.invariant-loop-elements
invariant-loop-elements l =
    l.all.items ++ map (λ e. together l.len l.row.width l.row.n e) (drop l.elements-index l.arrays) ≡ map (λ e. together l.len l.row.width l.row.n e) l.arrays
