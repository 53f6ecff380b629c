use Rattle.std.proofs.Common.{◌≡◌, ◌∙◌, ◌++◌, ap, List}
use Rattle.sa_ir.specs.declared.frame.Kept.{Kept}
use Rattle.sa_ir.specs.Cursors.{frame_of, cursor_layout, base_target}
use Rattle.sa_ir.specs.Indices.{step_layout}
use Rattle.sa_lower.specs.Arguments.{list_kept}
use Rattle.sa_lower.proofs.ArgumentLaws.{far-more, kept-more, target-ends}
use Rattle.sa_lower.proofs.targets.target.Goals as goal

pub loop-step-preserved : goal.loop-step-preserved
loop-step-preserved c =
    let p = c.args.program.now in
    let ss = c.as_slice-step-items.result.now in
    let i = c.loop-step.step-index in
    let l = cursor_layout p c.loop-step.at in
    let s = c.step-item.result in
    let n = c.in_ok-stepped.stepped in
    let e = c.in_ok-stepped.ensures in
    let to : cursor_layout p n.cursor ≡ step_layout l s = e.cursor.layout in
    record {
      at = e.cursor.known;
      cells = far-more l (cursor_layout p n.cursor) ss i s c.step-item.is c.loop-step-test.true to c.loop-step.cells n.cells c.saturating_add-cells.result _ e.cells c.saturating_add-cells.ensures c.loop-step.invariant.cells;
      rows = kept-more l (cursor_layout p n.cursor) ss i s c.step-item.is c.loop-step-test.true to c.loop-step.next _ c.loop-step.rows _ _ e.next e.rows c.loop-step.invariant.rows;
    }

pub returns : goal.returns
returns c =
    let p = c.args.program.now in
    let fr = frame_of p c.args.frame.now in
    let k = cursor_layout p c.whole-at.result in
    let ss = c.as_slice-step-items.result.now in
    target-ends p fr c.args.first_kept c.args.access.now ss c.as_slice-step-items.ensures c.loop-step.step-index c.loop-step.next (cursor_layout p c.loop-step.at) k (base_target c.in_ok-base.base) c.loop-step.cells c.in_ok-first.first c.loop-step.rows
    c.loop-step-test.false c.whole-at.ensures.layout c.in_ok-base.ensures c.loop-step.invariant.cells
    (c.loop-step.invariant.rows ∙ ap (λ (rs : List Kept). rs ++ list_kept k c.args.first_kept ss) c.in_ok-rows.ensures) c.in_ok-first.ensures.value c.in_ok-first.ensures.few
