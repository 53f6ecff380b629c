use Rattle.std.proofs.Common.{◌≡◌, ◌++◌, drop}
use Rattle.sa_calls.specs.Recursion.{calls_of_stmts, calls_of_groups}
use Rattle.sa_calls.proofs.graph.+statements.Given as goal

abbrev pub invariant-push_stmts-loop-stmt : goal.invariant-push_stmts-loop-stmt
invariant-push_stmts-loop-stmt l = l.calls ++ calls_of_stmts (drop l.stmt-index l.stmts) ≡ l.initial.calls ++ calls_of_stmts l.stmts

abbrev pub invariant-push_groups-loop-group : goal.invariant-push_groups-loop-group
invariant-push_groups-loop-group l = l.calls ++ calls_of_groups (drop l.group-index l.groups) ≡ l.initial.calls ++ calls_of_groups l.groups
