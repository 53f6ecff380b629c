use Rattle.std.proofs.Common.{◌≡◌, ℕ, ◌<◌, ◌≤◌}
use Rattle.sa_dbm.specs.Bounds.{plus, lesser}
use Rattle.sa_dbm.specs.Stored.{shown, shown_at}
use Rattle.sa_dbm.proofs.closing.lower_row.Given as goal

abbrev pub invariant-loop-i : goal.invariant-loop-i
invariant-loop-i l = record {
  lowered : (k : ℕ) → k < l.i → shown_at l.row k ≡ lesser (shown_at l.fn.row k) (plus (shown l.by) (shown_at l.others k));
  untouched : (k : ℕ) → l.i ≤ k → shown_at l.row k ≡ shown_at l.fn.row k;
}
