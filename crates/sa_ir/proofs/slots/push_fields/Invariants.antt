use Rattle.std.proofs.Common.{◌≡◌, ◌+◌, ◌≤◌, ◌++◌, drop, length}
use Rattle.sa_typed.specs.Layouts.{before_field}
use Rattle.sa_ir.specs.Sizes.{fields_of}
use Rattle.sa_ir.specs.Slots.{fields_in}
use Rattle.sa_ir.specs.Spots.{AreKnown, left, works, weight}
use Rattle.sa_ir.proofs.slots.push_fields.Given as goal

abbrev pub invariant-loop-f : goal.invariant-loop-f
invariant-loop-f l = record {
  inside : l.f ≤ length l.fields;
  known : AreKnown l.program.structs l.todo.items;
  slots : left l.program.structs l.fn.values l.todo.items
      ≡ fields_in l.fn.values (fields_of l.program.structs l.fn.k (drop l.f l.fields))
      (before_field (fields_of l.program.structs l.fn.k l.fields) l.f) l.elements
      ++ left l.program.structs l.fn.values l.initial.todo.items;
  work : weight l.program.structs l.todo.items
      ≤ works (fields_of l.program.structs l.fn.k (drop l.f l.fields)) + weight l.program.structs l.initial.todo.items;
}

abbrev pub decreases-loop-f : goal.decreases-loop-f
decreases-loop-f l = l.f
