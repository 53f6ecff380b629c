use Rattle.std.proofs.Common.{◌≡◌, ◌++◌, drop}
use Rattle.sa_ir.specs.Sizes.{extent, extents_from, fields_of}
use Rattle.sa_ir.proofs.sizes.field_extents.Given as goal

abbrev pub invariant-loop-field : goal.invariant-loop-field
invariant-loop-field l = record {
  small : l.before ≡ extent l.before.cells l.before.elements;
  whole : l.extents.items ++ extents_from l.before.cells l.before.elements (fields_of l.program.structs l.structs (drop l.field-index l.fields))
      ≡ extents_from 0 0 (fields_of l.program.structs l.structs l.fields);
}
