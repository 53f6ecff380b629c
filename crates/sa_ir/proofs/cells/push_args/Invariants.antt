use Rattle.std.proofs.Common.{◌≡◌, ◌++◌, drop}
use Rattle.std.specs.List.{flat_map}
use Rattle.sa_ir.specs.Frames.{arg_cells}
use Rattle.sa_ir.proofs.cells.push_args.Given as goal

abbrev pub invariant-loop-arg : goal.invariant-loop-arg
invariant-loop-arg l = l.cells.items ++ flat_map arg_cells (drop l.arg-index l.args) ≡ l.initial.cells.items ++ flat_map arg_cells l.args
