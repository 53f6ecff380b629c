use Rattle.std.proofs.Common.{◌≡◌, ◌≤◌, ◌+◌, ◌++◌, drop, length}
use Rattle.sa_ir.specs.Cursors.{cursor_layout}
use Rattle.sa_ir.specs.Sizes.{capped}
use Rattle.sa_lower.specs.Arguments.{list_far, list_kept}
use Rattle.sa_lower.proofs.targets.target.Given as goal

abbrev pub invariant-loop-step : goal.invariant-loop-step
invariant-loop-step l = record {
  at : l.at.structs ≤ length l.program.structs;
  cells : capped (l.cells + list_far (cursor_layout l.program l.at) (drop l.step-index l.step-items)) ≡ capped (l.initial.cells + list_far (cursor_layout l.program l.initial.at) l.step-items);
  rows : l.rows ++ list_kept (cursor_layout l.program l.at) l.next (drop l.step-index l.step-items) ≡ l.initial.rows ++ list_kept (cursor_layout l.program l.initial.at) l.initial.next l.step-items;
}
