use Rattle.std.proofs.Common.{◌≡◌, ◌++◌, drop}
use Rattle.std.specs.Prelude.{filter}
use Rattle.sa_lower.specs.Showing.{is_shown}
use Rattle.sa_lower.proofs.shown.in_scope.Given as goal

abbrev pub invariant-loop-cell : goal.invariant-loop-cell
invariant-loop-cell l = l.all ++ filter (is_shown l.places l.scope l.pos) (drop l.cell-index l.cells) ≡ filter (is_shown l.places l.scope l.pos) l.cells
