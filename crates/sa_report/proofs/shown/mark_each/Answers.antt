use Rattle.sa_report.proofs.MarkLaws.{each-more, each-end}
use Rattle.sa_report.proofs.shown.mark_each.Goals as goal

pub loop-k-preserved : goal.loop-k-preserved
loop-k-preserved c = each-more _ c.args.ks.now c.loop-k.k-index _ _ _ c.loop-k-test.true c.mark_at.ensures c.loop-k.invariant

pub returns : goal.returns
returns c = each-end _ c.args.ks.now c.loop-k.k-index _ c.loop-k-test.false c.loop-k.invariant
