use Rattle.sa_lower.specs.Showing.{is_shown}
use Rattle.sa_lower.proofs.ShownLaws.{filter_more, filter_end}
use Rattle.sa_lower.proofs.shown.in_scope.Goals as goal

pub loop-cell-preserved : goal.loop-cell-preserved
loop-cell-preserved c =
    filter_more (is_shown c.args.places.now c.args.scope.now c.args.pos) c.args.cells.now c.loop-cell.cell-index _ c.loop-cell.all _ _ c.is_shown-shows.result c.loop-cell-test.true
    c.is_shown-shows.ensures c.in_ok-push_if.ensures c.loop-cell.invariant

pub returns : goal.returns
returns c = filter_end (is_shown c.args.places.now c.args.scope.now c.args.pos) c.args.cells.now c.loop-cell.cell-index c.loop-cell.all _ c.loop-cell-test.false c.loop-cell.invariant
