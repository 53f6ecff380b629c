use Rattle.sa_ir.specs.Occurrences.{every}
use Rattle.sa_lower.proofs.Lists.{flat-more, flat-end}
use Rattle.sa_lower.proofs.named.spread.Goals as goal

pub loop-cell-preserved : goal.loop-cell-preserved
loop-cell-preserved c =
    flat-more (every c.args.n c.args.stride) c.args.from.now c.loop-cell.cell-index _ c.loop-cell.cells.items _ _ c.loop-cell-test.true c.in_ok-push_every.ensures c.loop-cell.invariant

pub returns : goal.returns
returns c = flat-end (every c.args.n c.args.stride) c.args.from.now c.loop-cell.cell-index c.loop-cell.cells.items _ c.loop-cell-test.false c.loop-cell.invariant
