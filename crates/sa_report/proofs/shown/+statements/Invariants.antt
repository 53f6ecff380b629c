use Rattle.std.proofs.Common.{◌≡◌, drop}
use Rattle.sa_typed.specs.Cells.{cells}
use Rattle.sa_report.specs.Marks.{by_stmts}
use Rattle.sa_report.proofs.shown.+statements.Given as goal

abbrev pub invariant-mark_stmts-loop-stmt : goal.invariant-mark_stmts-loop-stmt
invariant-mark_stmts-loop-stmt l = by_stmts (cells l.program) (drop l.stmt-index l.stmts) l.marks ≡ by_stmts (cells l.program) l.stmts l.initial.marks
