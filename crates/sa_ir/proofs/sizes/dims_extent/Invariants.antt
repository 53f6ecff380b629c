use Rattle.std.proofs.Common.{◌≡◌, ◌*◌, drop, length}
use Rattle.sa_typed.specs.Layouts.{nums, rows}
use Rattle.sa_typed.specs.Frames.{size}
use Rattle.sa_ir.specs.Sizes.{capped, among, no_array, shape_of}
use Rattle.sa_ir.proofs.sizes.dims_extent.Given as goal

abbrev pub invariant-loop-n : goal.invariant-loop-n
invariant-loop-n l = record {
  cells : capped (l.each.cells * size (rows (drop l.n-index l.dims) (among l.program.structs l.structs (no_array l.plain)))) ≡ capped (size (among l.program.structs l.structs (shape_of l.dims l.plain)));
  elements : capped (l.each.elements * length (nums (rows (drop l.n-index l.dims) (among l.program.structs l.structs (no_array l.plain))))) ≡ capped (length (nums (among l.program.structs l.structs (shape_of l.dims l.plain))));
}
