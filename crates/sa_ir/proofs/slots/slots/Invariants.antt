use Rattle.std.proofs.Common.{◌≡◌, ◌++◌}
use Rattle.sa_typed.specs.Layouts.{shape_layout}
use Rattle.sa_ir.specs.Spots.{all_slots, AreKnown, left, weight}
use Rattle.sa_ir.proofs.slots.slots.Given as goal

abbrev pub invariant-loop-spot : goal.invariant-loop-spot
invariant-loop-spot l = record {
  known : AreKnown l.program.structs l.todo.items;
  slots : l.out.items ++ left l.program.structs l.fn.values l.todo.items ≡ all_slots l.fn.values (shape_layout l.program.structs l.fn.shape);
}

abbrev pub decreases-loop-spot : goal.decreases-loop-spot
decreases-loop-spot l = weight l.program.structs l.todo.items
