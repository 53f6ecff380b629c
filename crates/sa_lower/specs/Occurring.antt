-- No promise of the top calls rests on this page: it is for inner functions. The cells that occur in parts that stand in lists.
use Rattle.std.specs.Prelude.{ℕ, List, []}
use Rattle.sa_ir.specs.declared.expr.IrExpr.{end_of-IrExpr, more_of-IrExpr}
use Rattle.sa_ir.specs.declared.expr.IrLink.{IrLink}
use Rattle.sa_ir.specs.declared.expr.Row.{Row, At', Kept}
use Rattle.sa_ir.specs.declared.node.IrGroup.{IrGroup}
use Rattle.sa_ir.specs.Occurrences.{expr_cells, node_cells}

abbrev pub link_cells : IrLink → List ℕ
link_cells l = expr_cells l.operand

unfoldable pub row_cells : Row → List ℕ
row_cells (At' q n stride m (more_of-IrExpr a end_of-IrExpr)) = expr_cells a
row_cells (Kept c n stride) = []

abbrev pub body_cells : IrGroup → List ℕ
body_cells g = node_cells g.body
