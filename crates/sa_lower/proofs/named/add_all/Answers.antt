use Rattle.sa_lower.proofs.Lists.{one_more, no_more}
use Rattle.sa_lower.proofs.named.add_all.Goals as goal

pub loop-cell-preserved : goal.loop-cell-preserved
loop-cell-preserved c = one_more c.loop-cell.cells.keys _ c.args.more.now _ c.loop-cell.cell-index _ c.loop-cell-test.true c.in_ok-insert.ensures.keys c.loop-cell.invariant

pub returns : goal.returns
returns c = no_more c.loop-cell.cells.keys c.args.more.now _ c.loop-cell.cell-index c.loop-cell-test.false c.loop-cell.invariant
