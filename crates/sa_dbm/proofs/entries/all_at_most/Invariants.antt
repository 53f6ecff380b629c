use Rattle.std.proofs.Common.{ℕ, ◌<◌, length}
use Rattle.sa_dbm.specs.Bounds.{AtMost}
use Rattle.sa_dbm.specs.Stored.{shown_at}
use Rattle.sa_dbm.proofs.entries.all_at_most.Given as goal

abbrev pub invariant-loop-bound : goal.invariant-loop-bound
invariant-loop-bound l = (k : ℕ) → k < length l.yielded → AtMost (shown_at l.bounds k) (shown_at l.others k)
