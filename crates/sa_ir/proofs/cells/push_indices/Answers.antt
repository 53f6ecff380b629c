use Rattle.std.proofs.Common.{◌∙◌, ◌++◌, ap}
use Rattle.sa_typed.specs.declared.expr.Step.{Step}
use Rattle.sa_ir.specs.Lists.{step_cells}
use Rattle.sa_ir.proofs.CallLemmas.{flat-more, flat-end}
use Rattle.sa_ir.proofs.cells.push_indices.Goals as goal

pub loop-step-preserved : goal.loop-step-preserved
loop-step-preserved c =
    flat-more step_cells c.args.steps.now c.loop-step.step-index c.step-item.result c.loop-step.cells.items _ _ c.loop-step-test.true
    (c.in_ok-push_index.ensures ∙ ap (λ (s : Step). c.loop-step.cells.items ++ step_cells s) c.step-item.is) c.loop-step.invariant

pub returns : goal.returns
returns c = flat-end step_cells c.args.steps.now c.loop-step.step-index c.loop-step.cells.items _ c.loop-step-test.false c.loop-step.invariant
