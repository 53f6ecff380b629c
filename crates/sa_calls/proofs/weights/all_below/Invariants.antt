use Rattle.std.proofs.Common.{◌≡◌, drop}
use Rattle.sa_calls.specs.Weights.{all_below}
use Rattle.sa_calls.proofs.weights.all_below.Given as goal

abbrev pub invariant-loop-row : goal.invariant-loop-row
invariant-loop-row l = all_below l.depth (drop l.row-index l.rows) ≡ all_below l.depth l.rows
