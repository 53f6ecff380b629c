use Rattle.std.proofs.Common.{◌≡◌, drop}
use Rattle.sa_calls.specs.Weights.{weight_after, groups_after}
use Rattle.sa_calls.proofs.weights.+statements.Given as goal

abbrev pub invariant-weigh_all-loop-stmt : goal.invariant-weigh_all-loop-stmt
invariant-weigh_all-loop-stmt l = weight_after l.rows (drop l.stmt-index l.stmts) l.sum ≡ weight_after l.rows l.stmts l.initial.sum

abbrev pub invariant-weigh_groups-loop-group : goal.invariant-weigh_groups-loop-group
invariant-weigh_groups-loop-group l = groups_after l.rows (drop l.group-index l.groups) l.sum ≡ groups_after l.rows l.groups l.initial.sum
