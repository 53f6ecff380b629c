use Rattle.std.proofs.Common.{◌∙◌, sym}
use Rattle.sa_report.proofs.MarkLaws.{taken-none, taken-more, taken-end}
use Rattle.sa_report.proofs.shown.steps_taken.Goals as goal

pub returns-in-None : goal.returns-in-None
returns-in-None c = taken-none _ c.args.steps.now c.loop-step.step-index c.step-item.result _ c.loop-step-test.true c.step-item.is c.loop-step.invariant (sym c.one_step.ensures ∙ c.in-None.is)

pub loop-step-preserved : goal.loop-step-preserved
loop-step-preserved c =
    taken-more _ c.args.steps.now c.loop-step.step-index c.step-item.result _ c.loop-step-test.true c.step-item.is c.loop-step.invariant c.in-Some.reach _ (sym c.one_step.ensures ∙ c.in-Some.is)
    c.in_ok-push-in-Some.ensures.ok

pub returns : goal.returns
returns c = taken-end _ c.args.steps.now c.loop-step.step-index _ c.loop-step-test.false c.loop-step.invariant
