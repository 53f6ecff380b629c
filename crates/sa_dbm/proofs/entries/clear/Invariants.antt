use Rattle.std.proofs.Common.{◌≡◌, ℕ, ◌+◌, ◌*◌, ◌<◌, ◌≤◌, None}
use Rattle.sa_dbm.specs.Stored.{shown_at}
use Rattle.sa_dbm.specs.Walks.{at_once}
use Rattle.sa_dbm.proofs.entries.clear.Given as goal

abbrev pub invariant-loop-i : goal.invariant-loop-i
invariant-loop-i l = (k : ℕ) → k < l.i → shown_at l.bounds k ≡ None

abbrev pub invariant-loop-i-2 : goal.invariant-loop-i-2
invariant-loop-i-2 l = record {
  done : (p q : ℕ) → p < l.i → q < l.nodes → shown_at l.bounds (p * l.nodes + q) ≡ at_once p q;
  none : (p q : ℕ) → l.i ≤ p → p < l.nodes → q < l.nodes → shown_at l.bounds (p * l.nodes + q) ≡ None;
}
