use Rattle.std.proofs.Common.{◌≡◌, ◌-◌, drop, length}
use Rattle.sa_report.specs.Loops.{facts_at}
use Rattle.sa_report.proofs.reports.facts_at.Given as goal

abbrev pub invariant-loop-done : goal.invariant-loop-done
invariant-loop-done l = l.found ≡ facts_at (drop (length l.loops - l.done) l.loops) l.place
