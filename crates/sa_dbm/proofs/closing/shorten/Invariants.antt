use Rattle.std.proofs.Common.{◌≡◌, ℕ, ◌+◌, ◌*◌, ◌<◌}
use Rattle.sa_dbm.specs.Stored.{shown_at, stored}
use Rattle.sa_dbm.proofs.Pivots.{through, FlatPivots}
use Rattle.sa_dbm.proofs.closing.shorten.Given as goal

abbrev pub invariant-loop-pivot : goal.invariant-loop-pivot
invariant-loop-pivot l = record {
  totals : (i j : ℕ) → i < l.nodes → j < l.nodes → shown_at l.bounds (i * l.nodes + j) ≡ through (stored l.vars l.fn.bounds) l.pivot i j;
  flat : FlatPivots (stored l.vars l.fn.bounds) l.pivot;
}
