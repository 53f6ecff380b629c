use Rattle.sa_report.proofs.ReportLemmas.{facts-start, facts-passed}
use Rattle.sa_report.proofs.reports.facts_at.Goals as goal

pub loop-done-init : goal.loop-done-init
loop-done-init c = facts-start c.args.loops.now c.args.place

pub loop-done-preserved : goal.loop-done-preserved
loop-done-preserved c =
    facts-passed c.args.loops.now c.args.place c.loop-done.done c.index-loops-loops.result c.loop-done.found _ c.loop-done-test.true c.index-loops-loops.is c.loop-done.invariant c.in_ok-found.ensures
