use Rattle.std.proofs.Common.{◌∙◌, ap}
use Rattle.sa_typed.specs.declared.expr.Step.{Step}
use Rattle.sa_lower.specs.Arguments.{step_count, list_count}
use Rattle.sa_lower.proofs.KeptLaws.{sum-more, sum-end, sum-fits, list-step, list-none, count-small}
use Rattle.sa_lower.proofs.kept.steps_count.Goals as goal

pub loop-step-preserved : goal.loop-step-preserved
loop-step-preserved c =
    let s = c.step-item.result in (
      sum-more step_count list_count list-step c.args.steps.now c.loop-step.step-index s c.step-item.is c.loop-step-test.true
          c.loop-step.count c.step_count.result c.saturating_add-count.result _ (c.step_count.ensures ∙ count-small s) c.saturating_add-count.ensures c.loop-step.invariant.0,
      sum-fits c.loop-step.count _ _ c.saturating_add-count.ensures,
    )

pub returns : goal.returns
returns c = sum-end list_count list-none c.args.steps.now c.loop-step.step-index c.loop-step.count _ c.loop-step-test.false c.loop-step.invariant.1 c.loop-step.invariant.0
