use Rattle.std.proofs.Common.{◌≡◌, ◌++◌, drop}
use Rattle.std.specs.List.{flat_map}
use Rattle.sa_ir.specs.Lists.{step_cells}
use Rattle.sa_ir.proofs.cells.push_indices.Given as goal

abbrev pub invariant-loop-step : goal.invariant-loop-step
invariant-loop-step l = l.cells.items ++ flat_map step_cells (drop l.step-index l.steps) ≡ l.initial.cells.items ++ flat_map step_cells l.steps
