use Rattle.sa_calls.proofs.RankLemmas.{rows-more, rows-stop, rows-end}
use Rattle.sa_calls.proofs.weights.all_below.Goals as goal

pub returns-then-depth-row : goal.returns-then-depth-row
returns-then-depth-row c = rows-stop c.args.depth c.args.rows.now c.loop-row.row-index _ c.loop-row-test.true c.if-depth-row.true c.loop-row.invariant

pub loop-row-preserved : goal.loop-row-preserved
loop-row-preserved c = rows-more c.args.depth c.args.rows.now c.loop-row.row-index _ c.loop-row-test.true c.if-depth-row.false c.loop-row.invariant

pub returns : goal.returns
returns c = rows-end c.args.depth c.args.rows.now c.loop-row.row-index c.loop-row-test.false c.loop-row.invariant
