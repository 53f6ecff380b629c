use Rattle.std.proofs.Common.{◌≡◌, ◌∙◌, sym, ap}
use Rattle.sa_reference.specs.Values.{fixed_reach}
use Rattle.sa_transfer.specs.Lists.{with_reach}
use Rattle.sa_transfer.proofs.FixedLaws.{fixed_more, fixed_end}
use Rattle.sa_transfer.proofs.ListLaws.{reached_first}
use Rattle.sa_transfer.proofs.fixed.fixed_reached.Goals as goal

pub loop-step-init : goal.loop-step-init
loop-step-init c = rw c.new.ensures (reached_first _)

pub loop-step-preserved : goal.loop-step-preserved
loop-step-preserved c =
    let s = c.step-item.result in
    let more : c.in_ok-reaches.reaches ≡ with_reach c.loop-step.reaches (fixed_reach s) = c.in_ok-reaches.ensures ∙ ap (with_reach c.loop-step.reaches) c.fixed_reach.ensures in
    rw more (sym (fixed_more c.args.steps.now c.loop-step.step-index c.loop-step.reaches s c.loop-step-test.true c.step-item.is) ∙ c.loop-step.invariant)

pub returns : goal.returns
returns c = sym (fixed_end c.args.steps.now c.loop-step.step-index c.loop-step.reaches c.loop-step-test.false) ∙ c.loop-step.invariant
