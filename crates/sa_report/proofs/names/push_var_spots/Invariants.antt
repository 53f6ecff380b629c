use Rattle.std.proofs.Common.{◌≡◌, ◌++◌, ◌-◌}
use Rattle.sa_report.specs.Spots.{spots_from}
use Rattle.sa_report.proofs.names.push_var_spots.Given as goal

abbrev pub invariant-loop-number : goal.invariant-loop-number
invariant-loop-number l = l.spots.items ++ spots_from l.var (l.cells - l.number) l.number ≡ l.initial.spots.items ++ spots_from l.var l.cells 0
