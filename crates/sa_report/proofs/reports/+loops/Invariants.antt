use Rattle.std.proofs.Common.{◌≡◌, ◌++◌, drop}
use Rattle.sa_iterate.specs.Analysis.{found_by}
use Rattle.sa_report.specs.Loops.{all_text}
use Rattle.sa_report.proofs.reports.+loops.Given as goal

abbrev pub invariant-push_stmts-loop-stmt : goal.invariant-push_stmts-loop-stmt
invariant-push_stmts-loop-stmt l = l.text.items ++ all_text l.program (found_by l.analysis) (drop l.stmt-index l.stmts) ≡ l.initial.text.items ++ all_text l.program (found_by l.analysis) l.stmts
