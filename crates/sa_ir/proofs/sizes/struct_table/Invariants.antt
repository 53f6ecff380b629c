use Rattle.std.proofs.Common.{◌≡◌, reverse, take}
use Rattle.sa_ir.specs.Sizes.{all_extents}
use Rattle.sa_ir.proofs.sizes.struct_table.Given as goal

abbrev pub invariant-loop-k : goal.invariant-loop-k
invariant-loop-k l = l.table.items ≡ all_extents (reverse (take l.k l.structs))
