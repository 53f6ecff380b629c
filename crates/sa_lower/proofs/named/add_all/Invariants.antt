use Rattle.std.proofs.Common.{◌≡◌, drop}
use Rattle.sa_ir.specs.Shown.{with_all}
use Rattle.sa_lower.proofs.named.add_all.Given as goal

abbrev pub invariant-loop-cell : goal.invariant-loop-cell
invariant-loop-cell l = with_all l.cells.keys (drop l.cell-index l.more) ≡ with_all l.initial.cells.keys l.more
