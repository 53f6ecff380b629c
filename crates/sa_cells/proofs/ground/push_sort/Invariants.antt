use Rattle.std.proofs.Common.{◌≡◌, ◌++◌, drop}
use Rattle.sa_typed.specs.Cells.{cells_at}
use Rattle.sa_cells.specs.Stretches.{sort_test, bare_slots}
use Rattle.sa_cells.proofs.ground.push_sort.Given as goal

abbrev pub invariant-loop-var : goal.invariant-loop-var
invariant-loop-var l =
    l.all.items ++ bare_slots (cells_at l.program (sort_test l.sort) l.var-index (drop l.var-index l.program.vars))
    ≡ l.initial.all.items ++ bare_slots (cells_at l.program (sort_test l.sort) 0 l.program.vars)
