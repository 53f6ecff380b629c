use Rattle.sa_octagon.proofs.Tops.{reach_even, reach_odd}
use Rattle.sa_octagon.proofs.fill.reach.Goals as goal

pub returns-then-node-eq0-clause-value : goal.returns-then-node-eq0-clause-value
returns-then-node-eq0-clause-value c =
    reach_even c.args.spans.now c.args.node c.index-spans-node.result c.hi.result c.requires.node c.index-spans-node.is c.if-node-eq0.true c.hi.ensures.value c.hi.ensures.whole

pub returns-else-node-eq0-clause-value : goal.returns-else-node-eq0-clause-value
returns-else-node-eq0-clause-value c =
    reach_odd c.args.spans.now c.args.node c.index-spans-node.result c.lo.result c.negated.result c.requires.node c.index-spans-node.is c.if-node-eq0.false c.negated.ensures c.lo.ensures.value c.lo.ensures.whole
