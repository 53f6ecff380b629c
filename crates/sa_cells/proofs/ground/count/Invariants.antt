use Rattle.std.proofs.Common.{◌≡◌, length, take}
use Rattle.sa_typed.specs.Cells.{cells_at}
use Rattle.sa_cells.specs.Stretches.{sort_test}
use Rattle.sa_cells.proofs.ground.count.Given as goal

abbrev pub invariant-loop-var : goal.invariant-loop-var
invariant-loop-var l = l.cells ≡ length (cells_at l.program (sort_test l.sort) 0 (take l.var-index l.program.vars))
