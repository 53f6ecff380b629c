use Rattle.std.proofs.Common.{◌≡◌, ◌≤◌, ◌+◌, ◌++◌, map, drop, length}
use Rattle.sa_ir.specs.Cursors.{frame_of, cursor_layout}
use Rattle.sa_ir.specs.Indices.{link_lowered, list_cells, list_rows}
use Rattle.sa_ir.specs.Places.{lowered}
use Rattle.sa_ir.specs.Sizes.{capped}
use Rattle.sa_ir.proofs.lowering.+lowering.Given as goal

abbrev pub invariant-lower_exprs-loop-e : goal.invariant-lower_exprs-loop-e
invariant-lower_exprs-loop-e l = l.all ++ map (lowered l.program (frame_of l.program l.frame)) (drop l.e-index l.exprs) ≡ map (lowered l.program (frame_of l.program l.frame)) l.exprs

abbrev pub invariant-lower_links-loop-link : goal.invariant-lower_links-loop-link
invariant-lower_links-loop-link l = l.all ++ map (link_lowered l.program (frame_of l.program l.frame)) (drop l.link-index l.links) ≡ map (link_lowered l.program (frame_of l.program l.frame)) l.links

abbrev pub invariant-lower_place-loop-step : goal.invariant-lower_place-loop-step
invariant-lower_place-loop-step l = record {
  at : l.at.structs ≤ length l.program.structs;
  cells : capped (l.cells + list_cells (cursor_layout l.program l.at) (drop l.step-index l.step-items)) ≡ capped (l.initial.cells + list_cells (cursor_layout l.program l.initial.at) l.step-items);
  rows :
      l.rows ++ list_rows l.program (frame_of l.program l.frame) (cursor_layout l.program l.at) (drop l.step-index l.step-items)
      ≡ l.initial.rows ++ list_rows l.program (frame_of l.program l.frame) (cursor_layout l.program l.initial.at) l.step-items;
}
