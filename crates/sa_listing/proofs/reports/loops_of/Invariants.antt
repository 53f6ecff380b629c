use Rattle.std.proofs.Common.{◌≡◌, ◌++◌, map, zip}
use Rattle.sa_listing.specs.Report.{loop_report}
use Rattle.sa_listing.proofs.reports.loops_of.Given as goal

abbrev pub invariant-loop-info : goal.invariant-loop-info
invariant-loop-info l = l.all ++ map (loop_report l.cells) (zip l.info-iterator.a.rest.now l.info-iterator.b.rest.now) ≡ map (loop_report l.cells) (zip l.infos l.facts)
