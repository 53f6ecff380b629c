use Rattle.std.proofs.Common.{◌∙◌}
use Rattle.sa_calls.proofs.GraphLemmas.{funcs-more, funcs-end}
use Rattle.sa_calls.proofs.graph.graph.Goals as goal

pub loop-func-preserved : goal.loop-func-preserved
loop-func-preserved c =
    funcs-more _ c.loop-func.graph.items c.push.new.self.items c.args.funcs.now c.loop-func.func-index c.func-item.result _ c.loop-func-test.true c.func-item.is c.in_ok-calls_of.ensures c.in_ok-push.ensures.items c.loop-func.invariant

pub returns : goal.returns
returns c = c.from_vec.ensures ∙ funcs-end _ c.loop-func.graph.items c.args.funcs.now c.loop-func.func-index c.loop-func-test.false c.loop-func.invariant
