use Rattle.std.proofs.Common.{◌≡◌}
use Rattle.sa_typed.specs.Cells.{cells}
use Rattle.sa_reference.specs.Fair.{AreIn}
use Rattle.sa_cells.specs.Settings.{begun}
use Rattle.sa_cells.proofs.env.initial.Given as goal

abbrev pub invariant-loop-var : goal.invariant-loop-var
invariant-loop-var l = record {
  value : l.cells ≡ begun l.program l.var (cells l.program);
  kept : AreIn (cells l.program) l.cells;
}
