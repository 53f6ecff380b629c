use Rattle.std.proofs.Common.{◌≡◌, ◌++◌, drop}
use Rattle.std.specs.List.{flat_map}
use Rattle.sa_ir.specs.Occurrences.{every}
use Rattle.sa_lower.proofs.named.spread.Given as goal

abbrev pub invariant-loop-cell : goal.invariant-loop-cell
invariant-loop-cell l = l.cells.items ++ flat_map (every l.n l.stride) (drop l.cell-index l.from) ≡ flat_map (every l.n l.stride) l.from
