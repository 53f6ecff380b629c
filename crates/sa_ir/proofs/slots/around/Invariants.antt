use Rattle.std.proofs.Common.{◌≡◌, ◌≤◌, take, length}
use Rattle.sa_typed.specs.Layouts.{nums, rows}
use Rattle.sa_ir.specs.Sizes.{among, no_array, capped}
use Rattle.sa_ir.specs.Spots.{wound, HasWidths}
use Rattle.sa_ir.proofs.slots.around.Given as goal

abbrev pub invariant-loop-k : goal.invariant-loop-k
invariant-loop-k l = record {
  inside : l.k ≤ length l.dims;
  whole : among l.program.structs l.structs l.shape ≡ rows (take l.k l.dims) (wound l.rows.items (among l.program.structs l.structs (no_array l.shape.plain)));
  widths : HasWidths l.rows.items (among l.program.structs l.structs (no_array l.shape.plain));
  counted : l.elements ≡ capped (length (nums (wound l.rows.items (among l.program.structs l.structs (no_array l.shape.plain)))));
}

abbrev pub decreases-loop-k : goal.decreases-loop-k
decreases-loop-k l = l.k
