use Rattle.std.proofs.Common.{◌≡◌, ◌++◌, map, drop}
use Rattle.sa_ir.specs.Places.{kept_row}
use Rattle.sa_ir.proofs.lowering.kept_rows.Given as goal

abbrev pub invariant-loop-row : goal.invariant-loop-row
invariant-loop-row l = l.rows ++ map kept_row (drop l.row-index l.kept) ≡ map kept_row l.kept
