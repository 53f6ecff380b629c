use Rattle.sa_listing.specs.Texts.{indented}
use Rattle.sa_listing.proofs.Written.{passed, over}
use Rattle.sa_listing.proofs.texts.push_lines.Goals as goal

pub loop-line-preserved : goal.loop-line-preserved
loop-line-preserved c = passed indented c.args.lines.now c.loop-line.line-index c.line-item.result c.line-item.result _ _ _ c.loop-line-test.true c.line-item.is c.in_ok-push_indented.ensures c.loop-line.invariant

pub returns : goal.returns
returns c = over indented c.args.lines.now c.loop-line.line-index _ _ c.loop-line-test.false c.loop-line.invariant
