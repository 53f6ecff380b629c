use Rattle.std.proofs.Common.{◌≡◌, ◌++◌, drop}
use Rattle.sa_report.specs.Spots.{spots_at}
use Rattle.sa_report.proofs.names.push_sort.Given as goal

abbrev pub invariant-loop-var : goal.invariant-loop-var
invariant-loop-var l = l.spots.items ++ spots_at l.program l.sort l.var (drop l.var l.program.vars) ≡ l.initial.spots.items ++ spots_at l.program l.sort 0 l.program.vars
