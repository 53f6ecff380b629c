use Rattle.std.proofs.Common.{ℕ, ◌+◌, ◌*◌, ◌<◌}
use Rattle.sa_dbm.specs.Bounds.{IsFlat}
use Rattle.sa_dbm.specs.Stored.{shown_at}
use Rattle.sa_dbm.proofs.closing.is_flat.Given as goal

abbrev pub invariant-loop-i : goal.invariant-loop-i
invariant-loop-i l = (k : ℕ) → k < l.i → IsFlat (shown_at l.bounds (k * l.nodes + k))
