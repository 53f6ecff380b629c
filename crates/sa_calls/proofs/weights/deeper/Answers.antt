use Rattle.std.proofs.Common.{List, ap, ◌∙◌}
use Rattle.sa_typed.specs.declared.stmt.Stmt.{Stmt}
use Rattle.sa_calls.specs.Weights.{weight_after, nothing}
use Rattle.sa_calls.proofs.DepthLemmas.{funcs-more, funcs-end}
use Rattle.sa_calls.proofs.weights.deeper.Goals as goal

pub loop-func-preserved : goal.loop-func-preserved
loop-func-preserved c =
    funcs-more c.args.rows.now _ c.loop-func.next.items c.push.new.self.items c.args.funcs.now c.loop-func.func-index c.func-item.result c.weigh_all.result c.loop-func-test.true c.func-item.is (c.weigh_all.ensures ∙ ap (λ (ss : List Stmt). weight_after c.args.rows.now ss nothing) c.as_slice.ensures) c.in_ok-push.ensures.items c.loop-func.invariant

pub returns : goal.returns
returns c = funcs-end c.args.rows.now _ c.loop-func.next.items c.args.funcs.now c.loop-func.func-index c.loop-func-test.false c.loop-func.invariant
