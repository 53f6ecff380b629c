use Rattle.std.proofs.Common.{◌∙◌, ap}
use Rattle.sa_ir.specs.declared.expr.IrExpr.{IrExpr}
use Rattle.sa_ir.specs.declared.expr.IrLink.{IrLink}
use Rattle.sa_ir.specs.declared.expr.Row.{Row}
use Rattle.sa_ir.specs.Occurrences.{expr_cells}
use Rattle.sa_ir.specs.Shown.{with_all}
use Rattle.sa_lower.specs.Occurring.{link_cells, row_cells}
use Rattle.sa_lower.proofs.Lists.{each_more, each_end}
use Rattle.sa_lower.proofs.occurring.+occurring.Goals as goal

pub add_exprs-loop-e-preserved : goal.add_exprs-loop-e-preserved
add_exprs-loop-e-preserved t c =
    let ks = c.loop-e.cells.keys in
    each_more expr_cells ks _ _ c.args.exprs.now c.loop-e.e-index c.e-item.result c.loop-e-test.true
    (c.in_ok-add_expr.ensures ∙ ap (λ (x : IrExpr). with_all ks (expr_cells x)) c.e-item.is) c.loop-e.invariant

pub add_exprs-returns : goal.add_exprs-returns
add_exprs-returns t c = each_end expr_cells c.loop-e.cells.keys _ c.args.exprs.now c.loop-e.e-index c.loop-e-test.false c.loop-e.invariant

pub add_links-loop-link-preserved : goal.add_links-loop-link-preserved
add_links-loop-link-preserved t c =
    let ks = c.loop-link.cells.keys in
    each_more link_cells ks _ _ c.args.links.now c.loop-link.link-index c.link-item.result c.loop-link-test.true
    (c.in_ok-add_expr.ensures ∙ ap (λ (x : IrLink). with_all ks (link_cells x)) c.link-item.is) c.loop-link.invariant

pub add_links-returns : goal.add_links-returns
add_links-returns t c = each_end link_cells c.loop-link.cells.keys _ c.args.links.now c.loop-link.link-index c.loop-link-test.false c.loop-link.invariant

pub add_indices-loop-row-preserved : goal.add_indices-loop-row-preserved
add_indices-loop-row-preserved t c =
    let ks = c.loop-row.cells.keys in
    each_more row_cells ks _ _ c.args.rows.now c.loop-row.row-index c.row-item.result c.loop-row-test.true
    (c.in_ok-add_index.ensures ∙ ap (λ (x : Row). with_all ks (row_cells x)) c.row-item.is) c.loop-row.invariant

pub add_indices-returns : goal.add_indices-returns
add_indices-returns t c = each_end row_cells c.loop-row.cells.keys _ c.args.rows.now c.loop-row.row-index c.loop-row-test.false c.loop-row.invariant
