use Rattle.std.proofs.Common.{◌≡◌, ◌+◌, ◌*◌, ◌≤◌, ◌++◌, length, vec_len}
use Rattle.std.specs.List.{flat_map}
use Rattle.sa_ir.specs.Sizes.{among, no_array}
use Rattle.sa_ir.specs.Slots.{slots_in}
use Rattle.sa_ir.specs.Spots.{AreKnown, left, work, weight}
use Rattle.sa_ir.proofs.slots.push_spots.Given as goal

abbrev pub invariant-loop-elements : goal.invariant-loop-elements
invariant-loop-elements l = record {
  known : AreKnown l.fn.program.structs l.todo.items;
  slots : flat_map (slots_in l.fn.values (among l.fn.program.structs l.fn.structs (no_array l.fn.shape.plain))) l.all.items ++ left l.fn.program.structs l.fn.values l.todo.items
      ≡ flat_map (slots_in l.fn.values (among l.fn.program.structs l.fn.structs (no_array l.fn.shape.plain))) l.initial.all.items ++ left l.fn.program.structs l.fn.values l.initial.todo.items;
  work : length l.all.items * work (among l.fn.program.structs l.fn.structs (no_array l.fn.shape.plain)) + weight l.fn.program.structs l.todo.items
      ≤ length l.initial.all.items * work (among l.fn.program.structs l.fn.structs (no_array l.fn.shape.plain)) + weight l.fn.program.structs l.initial.todo.items;
}

abbrev pub decreases-loop-elements : goal.decreases-loop-elements
decreases-loop-elements l = vec_len l.all
