use Rattle.std.proofs.Common.{◌≡◌, ℕ, ◌<◌, ◌≤◌}
use Rattle.sa_dbm.specs.Bounds.{greater}
use Rattle.sa_dbm.specs.Stored.{shown_at}
use Rattle.sa_dbm.proofs.entries.raise.Given as goal

abbrev pub invariant-loop-i : goal.invariant-loop-i
invariant-loop-i l = record {
  raised : (k : ℕ) → k < l.i → shown_at l.bounds k ≡ greater (shown_at l.fn.bounds k) (shown_at l.others k);
  untouched : (k : ℕ) → l.i ≤ k → shown_at l.bounds k ≡ shown_at l.fn.bounds k;
}
