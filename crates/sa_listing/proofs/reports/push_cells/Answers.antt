use Rattle.sa_listing.specs.Report.{cell_line}
use Rattle.sa_listing.proofs.Written.{pairs-over}
use Rattle.sa_listing.proofs.reports.push_cells.Goals as goal

pub returns : goal.returns
returns c = pairs-over (cell_line c.args.cells.now) c.loop-k.k-iterator.a.rest.now c.loop-k.k-iterator.b.rest.now _ _ c.in-None.ensures.steps c.loop-k.invariant
