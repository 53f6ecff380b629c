use Rattle.std.proofs.Common.{◌≡◌, ◌++◌, map, zip}
use Rattle.sa_listing.specs.Report.{cell_line}
use Rattle.sa_listing.proofs.reports.push_cells.Given as goal

abbrev pub invariant-loop-k : goal.invariant-loop-k
invariant-loop-k l = l.lines ++ map (cell_line l.cells) (zip l.k-iterator.a.rest.now l.k-iterator.b.rest.now) ≡ l.initial.lines ++ map (cell_line l.cells) (zip l.shown l.spans)
