use Rattle.std.proofs.Common.{◌++◌, ap, ◌∙◌}
use Rattle.sa_typed.specs.TypedPrograms.{calls_in}
use Rattle.sa_typed.specs.declared.stmt.Stmt.{Stmt}
use Rattle.sa_calls.specs.Recursion.{as_calls}
use Rattle.sa_calls.proofs.GraphLemmas.{stmts-more, stmts-end, groups-more, groups-end}
use Rattle.sa_calls.proofs.graph.+statements.Goals as goal

pub push_stmts-loop-stmt-preserved : goal.push_stmts-loop-stmt-preserved
push_stmts-loop-stmt-preserved t c =
    stmts-more _ c.loop-stmt.calls c.push_calls.new.calls c.args.stmts.now c.loop-stmt.stmt-index c.stmt-item.result c.loop-stmt-test.true c.stmt-item.is c.in_ok-push_calls.ensures c.loop-stmt.invariant

pub push_stmts-returns : goal.push_stmts-returns
push_stmts-returns t c = stmts-end _ c.loop-stmt.calls c.args.stmts.now c.loop-stmt.stmt-index c.loop-stmt-test.false c.loop-stmt.invariant

pub push_groups-loop-group-preserved : goal.push_groups-loop-group-preserved
push_groups-loop-group-preserved t c =
    groups-more _ c.loop-group.calls c.push_calls.new.calls c.args.groups.now c.loop-group.group-index c.group-item.result c.loop-group-test.true c.group-item.is
    (c.in_ok-push_calls.ensures ∙ ap (λ (s : Stmt). c.loop-group.calls ++ as_calls (calls_in s)) c.get.ensures) c.loop-group.invariant

pub push_groups-returns : goal.push_groups-returns
push_groups-returns t c = groups-end _ c.loop-group.calls c.args.groups.now c.loop-group.group-index c.loop-group-test.false c.loop-group.invariant
