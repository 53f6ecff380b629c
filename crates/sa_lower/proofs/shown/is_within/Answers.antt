use Rattle.sa_lower.proofs.ShownLaws.{within_more, within_stop, within_end}
use Rattle.sa_lower.proofs.shown.is_within.Goals as goal

pub returns-then-in_span : goal.returns-then-in_span
returns-then-in_span c = within_stop c.args.scope.now c.args.cell c.loop-span.span-index _ c.in_span.result c.loop-span-test.true c.in_span.ensures c.loop-span.invariant c.if-in_span.true

pub loop-span-preserved : goal.loop-span-preserved
loop-span-preserved c = within_more c.args.scope.now c.args.cell c.loop-span.span-index _ c.in_span.result c.loop-span-test.true c.in_span.ensures c.loop-span.invariant c.if-in_span.false

pub returns : goal.returns
returns c = within_end c.args.scope.now c.args.cell c.loop-span.span-index c.loop-span-test.false c.loop-span.invariant
