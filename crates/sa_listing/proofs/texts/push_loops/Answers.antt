use Rattle.sa_listing.specs.Texts.{loop_text}
use Rattle.sa_listing.proofs.Written.{passed, over}
use Rattle.sa_listing.proofs.texts.push_loops.Goals as goal

pub loop-report-preserved : goal.loop-report-preserved
loop-report-preserved c = passed loop_text c.args.loops.now c.loop-report.report-index c.report-item.result c.report-item.result _ _ _ c.loop-report-test.true c.report-item.is c.in_ok-push_loop.ensures c.loop-report.invariant

pub returns : goal.returns
returns c = over loop_text c.args.loops.now c.loop-report.report-index _ _ c.loop-report-test.false c.loop-report.invariant
