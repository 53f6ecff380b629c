use Rattle.std.proofs.Common.{◌≡◌, ◌++◌, take}
use Rattle.sa_ir.specs.Frames.{object_cells}
use Rattle.sa_ir.proofs.cells.push_object.Given as goal

abbrev pub invariant-loop-number : goal.invariant-loop-number
invariant-loop-number l = l.cells.items ≡ l.initial.cells.items ++ take l.number (object_cells l.program l.prefix l.var)
