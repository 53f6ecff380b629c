use Rattle.std.proofs.Common.{◌≡◌, drop}
use Rattle.sa_typed.specs.Cells.{cells}
use Rattle.sa_report.specs.Marks.{by_loops}
use Rattle.sa_report.proofs.shown.+loops.Given as goal

abbrev pub invariant-mark_loops-loop-stmt : goal.invariant-mark_loops-loop-stmt
invariant-mark_loops-loop-stmt l = by_loops l.place (cells l.program) (drop l.stmt-index l.stmts) l.marks ≡ by_loops l.place (cells l.program) l.stmts l.initial.marks
