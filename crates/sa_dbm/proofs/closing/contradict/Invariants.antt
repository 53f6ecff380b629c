use Rattle.std.proofs.Common.{ℕ, ◌<◌}
use Rattle.sa_dbm.specs.Bounds.{plus, IsFlat}
use Rattle.sa_dbm.specs.Stored.{shown_at}
use Rattle.sa_dbm.proofs.closing.contradict.Given as goal

abbrev pub invariant-loop-i : goal.invariant-loop-i
invariant-loop-i l = (k : ℕ) → k < l.i → IsFlat (plus (shown_at l.first k) (shown_at l.second k))
