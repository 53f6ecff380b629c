use Rattle.std.proofs.Common.{arith}
use Rattle.sa_calls.proofs.RoomLemmas.{steps-more, steps-end}
use Rattle.sa_calls.proofs.rooms.indices_in.Goals as goal

pub loop-step-preserved : goal.loop-step-preserved
loop-step-preserved c =
    let e = c.saturating_add-sum.ensures in (
      omega (arith, e),
      steps-more c.loop-step.sum c.saturating_add-sum.result c.one_index.result c.args.steps.now c.loop-step.step-index c.step-item.result c.loop-step-test.true c.step-item.is e c.one_index.ensures c.loop-step.invariant.1,
    )

pub returns : goal.returns
returns c = steps-end c.loop-step.sum c.args.steps.now c.loop-step.step-index c.loop-step.invariant.0 c.loop-step-test.false c.loop-step.invariant.1
