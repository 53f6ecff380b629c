use Rattle.sa_report.proofs.SpotLemmas.{from-more, from-end}
use Rattle.sa_report.proofs.names.push_var_spots.Goals as goal

pub loop-number-preserved : goal.loop-number-preserved
loop-number-preserved c = from-more c.args.var c.args.cells c.loop-number.number _ _ _ c.loop-number-test.true c.in_ok-push.ensures.items c.loop-number.invariant

pub returns : goal.returns
returns c = from-end c.args.var c.args.cells c.loop-number.number _ _ c.loop-number-test.false c.loop-number.invariant
