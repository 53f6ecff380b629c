use Rattle.std.proofs.Common.{◌≡◌, ◌++◌, drop}
use Rattle.std.specs.List.{flat_map}
use Rattle.sa_ir.specs.Frames.{object_cells}
use Rattle.sa_ir.proofs.cells.push_home.Given as goal

abbrev pub invariant-loop-var : goal.invariant-loop-var
invariant-loop-var l = l.cells.items ++ flat_map (object_cells l.program l.prefix) (drop l.var-index l.var-items) ≡ l.initial.cells.items ++ flat_map (object_cells l.program l.prefix) l.var-items
