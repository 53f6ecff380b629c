use Rattle.std.proofs.Common.{◌≡◌, ◌++◌, drop}
use Rattle.sa_lower.proofs.targets.copied.Given as goal

abbrev pub invariant-loop-row : goal.invariant-loop-row
invariant-loop-row l = l.rows ++ drop l.row-index l.kept ≡ l.kept
