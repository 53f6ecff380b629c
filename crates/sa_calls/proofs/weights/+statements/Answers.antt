use Rattle.std.proofs.Common.{ap, ◌∙◌}
use Rattle.sa_calls.specs.Weights.{both, weight_in, weight_after, groups_after}
use Rattle.sa_calls.proofs.WeightLemmas.{stmts-more, stmts-end, groups-more, groups-end}
use Rattle.sa_calls.proofs.weights.+statements.Goals as goal

pub weigh_all-loop-stmt-preserved : goal.weigh_all-loop-stmt-preserved
weigh_all-loop-stmt-preserved t c =
    stmts-more c.args.rows.now _ c.loop-stmt.sum c.both-sum.result c.args.stmts.now c.loop-stmt.stmt-index c.stmt-item.result c.loop-stmt-test.true c.stmt-item.is (c.both-sum.ensures ∙ ap (both c.loop-stmt.sum) c.weigh.ensures) c.loop-stmt.invariant

pub weigh_all-returns : goal.weigh_all-returns
weigh_all-returns t c =
    stmts-end c.args.rows.now _ c.loop-stmt.sum c.args.stmts.now c.loop-stmt.stmt-index c.loop-stmt-test.false (c.loop-stmt.invariant ∙ ap (weight_after c.args.rows.now c.args.stmts.now) c.nothing-sum.ensures)

pub weigh_groups-loop-group-preserved : goal.weigh_groups-loop-group-preserved
weigh_groups-loop-group-preserved t c =
    groups-more c.args.rows.now _ c.loop-group.sum c.both-sum.result c.args.groups.now c.loop-group.group-index c.group-item.result c.loop-group-test.true c.group-item.is
    (c.both-sum.ensures ∙ ap (both c.loop-group.sum) (c.weigh.ensures ∙ ap (weight_in c.args.rows.now) c.get.ensures)) c.loop-group.invariant

pub weigh_groups-returns : goal.weigh_groups-returns
weigh_groups-returns t c =
    groups-end c.args.rows.now _ c.loop-group.sum c.args.groups.now c.loop-group.group-index c.loop-group-test.false (c.loop-group.invariant ∙ ap (groups_after c.args.rows.now c.args.groups.now) c.nothing-sum.ensures)
