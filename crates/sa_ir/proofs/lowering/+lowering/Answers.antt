use Rattle.std.proofs.Common.{rules, subst, true, ◌≡◌, ◌∙◌, ◌++◌, ◌∷◌, [], List, ap, sym}
use Rattle.sa_typed.specs.declared.expr.Expr.{Expr, the_lemmas}
use Rattle.sa_typed.specs.Constants.{is_constant}
use Rattle.sa_typed.specs.Links.{HasType}
use Rattle.sa_typed.specs.declared.expr.Link.{Link, out-Link}
use Rattle.sa_typed.specs.declared.expr.Step.TheVariants as step
use Rattle.sa_ir.specs.declared.expr.IrExpr.{IrExpr}
use Rattle.sa_ir.specs.declared.expr.IrLink.{IrLink}
use Rattle.sa_ir.specs.declared.expr.Row.{Row}
use Rattle.sa_ir.specs.Cursors.{frame_of, base_target, cursor_layout}
use Rattle.sa_ir.specs.Indices.{AreIndicesTyped, link_lowered, step_layout, list_rows}
use Rattle.sa_ir.specs.Places.{lowered}
use Rattle.sa_ir.proofs.LowerLaws.{has_read, has_prefix, has_cast, has_first, has_links, has_and, has_ands, has_or, has_ors, has_test, has_second, has_third, map-more, map-end, has_constant, has_index, step-at, rows-at, step-field, rows-field, cells-more, rows-more, place-ends}
use Rattle.sa_ir.proofs.lowering.+lowering.Goals as goal

pub lower_expr-lower_place-requires : goal.lower_expr-lower_place-requires
lower_expr-lower_place-requires t c = search (rules, the_lemmas, has_read)

pub lower_expr-lower_boxed-requires : goal.lower_expr-lower_boxed-requires
lower_expr-lower_boxed-requires t c = search (rules, the_lemmas, has_prefix)

pub lower_expr-lower_boxed-requires-in-Cast : goal.lower_expr-lower_boxed-requires-in-Cast
lower_expr-lower_boxed-requires-in-Cast t c = search (rules, the_lemmas, has_cast)

pub lower_expr-lower_boxed-requires-in-Chain : goal.lower_expr-lower_boxed-requires-in-Chain
lower_expr-lower_boxed-requires-in-Chain t c = search (rules, the_lemmas, has_first)

pub lower_expr-lower_links-requires : goal.lower_expr-lower_links-requires
lower_expr-lower_links-requires t c = search (rules, the_lemmas, has_links)

pub lower_expr-lower_boxed-requires-in-And : goal.lower_expr-lower_boxed-requires-in-And
lower_expr-lower_boxed-requires-in-And t c = search (rules, the_lemmas, has_and)

pub lower_expr-lower_exprs-requires : goal.lower_expr-lower_exprs-requires
lower_expr-lower_exprs-requires t c = search (rules, the_lemmas, has_ands)

pub lower_expr-lower_boxed-requires-in-Or : goal.lower_expr-lower_boxed-requires-in-Or
lower_expr-lower_boxed-requires-in-Or t c = search (rules, the_lemmas, has_or)

pub lower_expr-lower_exprs-requires-in-Or : goal.lower_expr-lower_exprs-requires-in-Or
lower_expr-lower_exprs-requires-in-Or t c = search (rules, the_lemmas, has_ors)

pub lower_expr-lower_boxed-requires-in-Choice : goal.lower_expr-lower_boxed-requires-in-Choice
lower_expr-lower_boxed-requires-in-Choice t c =
    (search (rules, the_lemmas) depth 8, (c.requires.table, subst AreIndicesTyped (sym c.get-in-Choice.ensures) (has_test c.args.e.now c.in-Choice.test c.in-Choice.first c.in-Choice.second c.in-Choice.num c.in-Choice.is c.requires.typed)))

pub lower_expr-lower_boxed-requires-in-Choice-2 : goal.lower_expr-lower_boxed-requires-in-Choice-2
lower_expr-lower_boxed-requires-in-Choice-2 t c =
    (search (rules, the_lemmas) depth 8, (c.requires.table, subst AreIndicesTyped (sym c.get-in-Choice-2.ensures) (has_second c.args.e.now c.in-Choice.test c.in-Choice.first c.in-Choice.second c.in-Choice.num c.in-Choice.is c.requires.typed)))

pub lower_expr-lower_boxed-requires-in-Choice-3 : goal.lower_expr-lower_boxed-requires-in-Choice-3
lower_expr-lower_boxed-requires-in-Choice-3 t c =
    (search (rules, the_lemmas) depth 8, (c.requires.table, subst AreIndicesTyped (sym c.get-in-Choice-3.ensures) (has_third c.args.e.now c.in-Choice.test c.in-Choice.first c.in-Choice.second c.in-Choice.num c.in-Choice.is c.requires.typed)))

pub lower_exprs-loop-e-preserved : goal.lower_exprs-loop-e-preserved
lower_exprs-loop-e-preserved t c =
    let p = c.args.program.now in
    let f = lowered p (frame_of p c.args.frame.now) in
    map-more f c.args.exprs.now c.loop-e.e-index c.e-item.result c.loop-e.all _ _ c.loop-e-test.true
    (c.in_ok-push.ensures.ok ∙ ap (λ (x : IrExpr). c.loop-e.all ++ x ∷ []) (c.in_ok-lowered.ensures ∙ ap f c.e-item.is)) c.loop-e.invariant

pub lower_exprs-returns : goal.lower_exprs-returns
lower_exprs-returns t c =
    let p = c.args.program.now in
    map-end (lowered p (frame_of p c.args.frame.now)) c.args.exprs.now c.loop-e.e-index c.loop-e.all _ c.loop-e-test.false c.loop-e.invariant

pub lower_links-loop-link-preserved : goal.lower_links-loop-link-preserved
lower_links-loop-link-preserved t c =
    let p = c.args.program.now in
    let f = link_lowered p (frame_of p c.args.frame.now) in
    let k = out-Link c.link-item.result in
    map-more f c.args.links.now c.loop-link.link-index c.link-item.result c.loop-link.all _ _ c.loop-link-test.true
    (c.in_ok-push.ensures.ok ∙ ap (λ (x : IrExpr). c.loop-link.all ++ (let y : IrLink = record { op = k.op; pos = k.pos; num = k.num; operand = x } in y) ∷ []) c.in_ok-operand.ensures
    ∙ ap (λ (x : Link). c.loop-link.all ++ f x ∷ []) c.link-item.is) c.loop-link.invariant

pub lower_links-returns : goal.lower_links-returns
lower_links-returns t c =
    let p = c.args.program.now in
    map-end (link_lowered p (frame_of p c.args.frame.now)) c.args.links.now c.loop-link.link-index c.loop-link.all _ c.loop-link-test.false c.loop-link.invariant

pub lower_step-lower_index-requires : goal.lower_step-lower_index-requires
lower_step-lower_index-requires t c = (
  search (rules, the_lemmas),
  (
    c.requires.table,
    (
      subst (λ (x : Expr). is_constant x ≡ true → HasType x) (sym c.get.ensures) (has_constant c.args.step.now c.in-At.pos c.in-At.n c.in-At.index c.in-At.is c.requires.typed),
      subst AreIndicesTyped (sym c.get.ensures) (has_index c.args.step.now c.in-At.pos c.in-At.n c.in-At.index c.in-At.is c.requires.typed),
    ),
  ),
)

pub lower_step-returns-in_ok-cells-in-At-clause-step : goal.lower_step-returns-in_ok-cells-in-At-clause-step
lower_step-returns-in_ok-cells-in-At-clause-step t c =
    let p = c.args.program.now in
    step-at p (cursor_layout p c.args.at) c.args.step.now c.in-At.pos c.in-At.n c.get.result.now c.stride-stride.result c.in_ok-cells-in-At.cells c.inner.result
    (c.in-At.is ∙ ap (step.At c.in-At.pos c.in-At.n) (sym c.get.ensures)) c.stride-stride.ensures c.in_ok-cells-in-At.ensures.cells c.inner.ensures

pub lower_step-returns-in_ok-cells-in-At-clause-rows : goal.lower_step-returns-in_ok-cells-in-At-clause-rows
lower_step-returns-in_ok-cells-in-At-clause-rows t c =
    let p = c.args.program.now in
    rows-at p (frame_of p c.args.frame.now) (cursor_layout p c.args.at) c.args.step.now c.in-At.pos c.in-At.n c.get.result.now c.stride-stride.result _ _
    (c.in-At.is ∙ ap (step.At c.in-At.pos c.in-At.n) (sym c.get.ensures)) c.stride-stride.ensures c.in_ok-cells-in-At.ensures.rows c.in_ok-cells-in-At.ensures.few

pub lower_step-returns-in-Field-clause-step : goal.lower_step-returns-in-Field-clause-step
lower_step-returns-in-Field-clause-step t c =
    let p = c.args.program.now in
    step-field p (cursor_layout p c.args.at) c.args.step.now c.in-Field.f c.field.result c.in-Field.is c.field.ensures

pub lower_step-returns-in-Field-clause-rows : goal.lower_step-returns-in-Field-clause-rows
lower_step-returns-in-Field-clause-rows t c =
    let p = c.args.program.now in
    rows-field p (frame_of p c.args.frame.now) (cursor_layout p c.args.at) c.args.step.now c.in-Field.f c.args.rows.now c.in-Field.is

pub lower_place-loop-step-preserved : goal.lower_place-loop-step-preserved
lower_place-loop-step-preserved t c =
    let p = c.args.program.now in
    let fr = frame_of p c.args.frame.now in
    let ss = c.as_slice-step-items.result.now in
    let i = c.loop-step.step-index in
    let l = cursor_layout p c.loop-step.at in
    let s = c.step-item.result in
    let n = c.in_ok-next.next in
    let e = c.in_ok-next.ensures in
    let to : cursor_layout p n.cursor ≡ step_layout l s = e.step.cursor.layout in
    record {
      at = e.step.cursor.known;
      cells = cells-more l (cursor_layout p n.cursor) ss i s c.step-item.is c.loop-step-test.true to c.loop-step.cells n.cells c.saturating_add-cells.result _ e.step.cells c.saturating_add-cells.ensures c.loop-step.invariant.cells;
      rows = rows-more p fr l (cursor_layout p n.cursor) ss i s c.step-item.is c.loop-step-test.true to c.loop-step.rows _ _ e.rows c.loop-step.invariant.rows;
    }

pub lower_place-returns : goal.lower_place-returns
lower_place-returns t c =
    let p = c.args.program.now in
    let fr = frame_of p c.args.frame.now in
    let k = cursor_layout p c.whole-at.result in
    let ss = c.as_slice-step-items.result.now in
    place-ends p fr c.args.access.now ss c.as_slice-step-items.ensures c.loop-step.step-index (cursor_layout p c.loop-step.at) k (base_target c.in_ok-base.base) c.loop-step.cells c.in_ok-first.first c.loop-step.rows
    c.loop-step-test.false c.whole-at.ensures.layout c.in_ok-base.ensures c.loop-step.invariant.cells
    (c.loop-step.invariant.rows ∙ ap (λ (rs : List Row). rs ++ list_rows p fr k ss) c.in_ok-rows.ensures) c.in_ok-first.ensures.value c.in_ok-first.ensures.few
