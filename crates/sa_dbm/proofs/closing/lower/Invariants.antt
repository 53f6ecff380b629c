use Rattle.std.proofs.Common.{◌≡◌, ℕ, ◌+◌, ◌*◌, ◌<◌, ◌≤◌}
use Rattle.sa_dbm.specs.Bounds.{plus, lesser}
use Rattle.sa_dbm.specs.Stored.{shown_at}
use Rattle.sa_dbm.proofs.closing.lower.Given as goal

abbrev pub invariant-loop-i : goal.invariant-loop-i
invariant-loop-i l = record {
  lowered : (p q : ℕ) → p < l.i → q < l.nodes →
      shown_at l.bounds (p * l.nodes + q) ≡ lesser (shown_at l.fn.bounds (p * l.nodes + q)) (plus (shown_at l.first p) (shown_at l.second q));
  untouched : (p q : ℕ) → l.i ≤ p → q < l.nodes → shown_at l.bounds (p * l.nodes + q) ≡ shown_at l.fn.bounds (p * l.nodes + q);
}
