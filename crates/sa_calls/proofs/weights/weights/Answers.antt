use Rattle.std.proofs.Common.{List, ◌+◌, sym, ap, ◌∙◌, arith}
use Rattle.sa_calls.specs.declared.weights.Weight.{Weight}
use Rattle.sa_calls.specs.Weights.{weight_at, deeper, is_settled}
use Rattle.sa_calls.proofs.DepthLemmas.{first-round, next-round}
use Rattle.sa_calls.proofs.RankLemmas.{settled-rows}
use Rattle.sa_calls.proofs.weights.weights.Goals as goal

pub loop-done-init : goal.loop-done-init
loop-done-init c = λ f. ap (λ (ws : List Weight). weight_at ws f) c.new-rows.ensures.items ∙ first-round c.args.program.now f

pub loop-done-preserved : goal.loop-done-preserved
loop-done-preserved c =
    next-round c.args.program.now c.loop-done.done c.loop-done.rows.items c.loop-done.invariant (c.loop-done.done + 1) c.in_ok-rows.rows.items (omega arith)
    (c.in_ok-rows.ensures ∙ ap (λ (ws : List Weight). deeper ws c.as_slice.result.now) c.deref-in-loop-done.ensures.value ∙ ap (deeper c.loop-done.rows.items) c.as_slice.ensures)

pub returns-then-is_settled : goal.returns-then-is_settled
returns-then-is_settled c =
    let below = c.loop-done-test.true in
    let fits = c.ranges.depth.fits in
    settled-rows c.args.program.now c.args.depth c.loop-done.done c.loop-done.rows.items (omega (arith, fits, below)) (omega (arith, below))
    (sym (c.is_settled.ensures ∙ ap (λ (ws : List Weight). is_settled c.loop-done.done ws) c.deref.ensures.value) ∙ c.if-is_settled.true) c.loop-done.invariant
