use Rattle.std.proofs.Common.{◌≡◌, drop}
use Rattle.sa_report.specs.Marks.{mark_each}
use Rattle.sa_report.proofs.shown.mark_each.Given as goal

abbrev pub invariant-loop-k : goal.invariant-loop-k
invariant-loop-k l = mark_each (drop l.k-index l.ks) l.marks ≡ mark_each l.ks l.initial.marks
