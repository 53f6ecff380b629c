use Rattle.sa_listing.specs.Report.{loop_report}
use Rattle.sa_listing.proofs.Written.{pairs-over}
use Rattle.sa_listing.proofs.reports.loops_of.Goals as goal

pub returns : goal.returns
returns c = pairs-over (loop_report c.args.cells.now) c.loop-info.info-iterator.a.rest.now c.loop-info.info-iterator.b.rest.now _ _ c.in-None.ensures.steps c.loop-info.invariant
