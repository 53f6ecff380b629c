use Rattle.std.proofs.Common.{◌≡◌, ◌++◌}
use Rattle.sa_report.specs.Loops.{cells_text}
use Rattle.sa_report.proofs.ReportLemmas.{cells_left}
use Rattle.sa_report.proofs.reports.push_cells.Given as goal

abbrev pub invariant-loop-k : goal.invariant-loop-k
invariant-loop-k l = l.text.items ++ cells_left l.program l.place l.spans l.k ≡ l.initial.text.items ++ cells_text l.program l.place l.spans
