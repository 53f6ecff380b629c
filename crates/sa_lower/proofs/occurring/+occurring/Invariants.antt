use Rattle.std.proofs.Common.{◌≡◌, drop}
use Rattle.std.specs.List.{flat_map}
use Rattle.sa_ir.specs.Occurrences.{expr_cells}
use Rattle.sa_ir.specs.Shown.{with_all}
use Rattle.sa_lower.specs.Occurring.{link_cells, row_cells}
use Rattle.sa_lower.proofs.occurring.+occurring.Given as goal

abbrev pub invariant-add_exprs-loop-e : goal.invariant-add_exprs-loop-e
invariant-add_exprs-loop-e l = with_all l.cells.keys (flat_map expr_cells (drop l.e-index l.exprs)) ≡ with_all l.initial.cells.keys (flat_map expr_cells l.exprs)

abbrev pub invariant-add_links-loop-link : goal.invariant-add_links-loop-link
invariant-add_links-loop-link l = with_all l.cells.keys (flat_map link_cells (drop l.link-index l.links)) ≡ with_all l.initial.cells.keys (flat_map link_cells l.links)

abbrev pub invariant-add_indices-loop-row : goal.invariant-add_indices-loop-row
invariant-add_indices-loop-row l = with_all l.cells.keys (flat_map row_cells (drop l.row-index l.rows)) ≡ with_all l.initial.cells.keys (flat_map row_cells l.rows)
