use Rattle.sa_ir.specs.Cursors.{cursor_layout}
use Rattle.sa_lower.proofs.ArgumentLaws.{index-far, index-cursor, index-kept, index-count, field-far, field-cursor, field-kept, field-count}
use Rattle.sa_lower.proofs.targets.keep_step.Goals as goal

pub returns-in_ok-push-in-At-clause-cells : goal.returns-in_ok-push-in-At-clause-cells
returns-in_ok-push-in-At-clause-cells c = index-far (cursor_layout c.args.program.now c.args.at) c.args.step.now c.in-At.field-0 c.in-At.n c.in-At.field-2 c.in-At.is

pub returns-in_ok-push-in-At-clause-cursor : goal.returns-in_ok-push-in-At-clause-cursor
returns-in_ok-push-in-At-clause-cursor c =
    let p = c.args.program.now in
    index-cursor (cursor_layout p c.args.at) c.args.step.now c.in-At.field-0 c.in-At.n c.in-At.field-2 c.in-At.is p c.inner.result c.inner.ensures

pub returns-in_ok-push-in-At-clause-rows : goal.returns-in_ok-push-in-At-clause-rows
returns-in_ok-push-in-At-clause-rows c =
    index-kept (cursor_layout c.args.program.now c.args.at) c.args.step.now c.in-At.field-0 c.in-At.n c.in-At.field-2 c.in-At.is
    c.args.next.now c.in_ok-cell-in-At.cell c.stride.result c.in_ok-width-in-At.width c.args.rows.now c.push.new.self
    c.in_ok-cell-in-At.ensures.value c.stride.ensures c.in_ok-width-in-At.ensures.value c.in_ok-width-in-At.ensures.few c.in_ok-push-in-At.ensures.ok

pub returns-in_ok-push-in-At-clause-next : goal.returns-in_ok-push-in-At-clause-next
returns-in_ok-push-in-At-clause-next c =
    index-count (cursor_layout c.args.program.now c.args.at) c.args.step.now c.in-At.field-0 c.in-At.n c.in-At.field-2 c.in-At.is
    c.args.next.now c.in_ok-cell-in-At.cell c.in_ok-cell-in-At.ensures.value

pub returns-in-Field-clause-cells : goal.returns-in-Field-clause-cells
returns-in-Field-clause-cells c =
    let p = c.args.program.now in
    field-far (cursor_layout p c.args.at) c.args.step.now c.in-Field.f c.in-Field.is p c.field.result c.field.ensures

pub returns-in-Field-clause-cursor : goal.returns-in-Field-clause-cursor
returns-in-Field-clause-cursor c =
    let p = c.args.program.now in
    field-cursor (cursor_layout p c.args.at) c.args.step.now c.in-Field.f c.in-Field.is p c.field.result c.field.ensures

pub returns-in-Field-clause-rows : goal.returns-in-Field-clause-rows
returns-in-Field-clause-rows c = field-kept (cursor_layout c.args.program.now c.args.at) c.args.step.now c.in-Field.f c.in-Field.is c.args.next.now c.args.rows.now

pub returns-in-Field-clause-next : goal.returns-in-Field-clause-next
returns-in-Field-clause-next c = field-count (cursor_layout c.args.program.now c.args.at) c.args.step.now c.in-Field.f c.in-Field.is c.args.next.now
