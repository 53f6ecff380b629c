use Rattle.std.proofs.Common.{◌≡◌, ℕ, ◌+◌, ◌*◌, ◌<◌, length}
use Rattle.sa_dbm.specs.Bounds.{half}
use Rattle.sa_dbm.specs.Tables.{bar}
use Rattle.sa_dbm.specs.Stored.{shown_at}
use Rattle.sa_dbm.proofs.closing.halves.Given as goal

abbrev pub invariant-loop-i : goal.invariant-loop-i
invariant-loop-i l = record {
  room_to : length l.to ≡ 16;
  room_from : length l.from ≡ 16;
  to : (k : ℕ) → k < l.i → shown_at l.to k ≡ half (shown_at l.bounds (k * l.nodes + bar k));
  from : (k : ℕ) → k < l.i → shown_at l.from k ≡ half (shown_at l.bounds (bar k * l.nodes + k));
}
