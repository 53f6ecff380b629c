use Rattle.std.proofs.Common.{◌∙◌, ap}
use Rattle.sa_ir.specs.declared.expr.Row.{Row}
use Rattle.sa_lower.specs.Rows.{row_leads}
use Rattle.sa_lower.proofs.RowLaws.{lead_more, lead_end}
use Rattle.sa_lower.proofs.named.rows_lead.Goals as goal

pub loop-row-preserved : goal.loop-row-preserved
loop-row-preserved c =
    lead_more c.args.rows.now c.loop-row.row-index c.row-item.result c.loop-row.cells.items _ _ c.loop-row-test.true
    (c.in_ok-cells.ensures ∙ ap (λ (x : Row). row_leads x c.loop-row.cells.items) c.row-item.is) c.loop-row.invariant

pub returns : goal.returns
returns c = lead_end c.args.rows.now c.loop-row.row-index c.loop-row.cells.items _ c.loop-row-test.false c.loop-row.invariant
