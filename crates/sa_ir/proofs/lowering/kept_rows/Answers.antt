use Rattle.sa_ir.specs.Places.{kept_row}
use Rattle.sa_ir.proofs.LowerLaws.{map-more, map-end}
use Rattle.sa_ir.proofs.lowering.kept_rows.Goals as goal

pub loop-row-preserved : goal.loop-row-preserved
loop-row-preserved c =
    map-more kept_row c.args.kept.now c.loop-row.row-index _ c.loop-row.rows _ _ c.loop-row-test.true c.in_ok-push.ensures.ok c.loop-row.invariant

pub returns : goal.returns
returns c = map-end kept_row c.args.kept.now c.loop-row.row-index c.loop-row.rows _ c.loop-row-test.false c.loop-row.invariant
