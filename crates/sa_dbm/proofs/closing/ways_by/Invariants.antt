use Rattle.std.proofs.Common.{◌≡◌, ℕ, ◌+◌, ◌*◌, ◌<◌, length}
use Rattle.sa_dbm.specs.Stored.{shown_at}
use Rattle.sa_dbm.proofs.closing.ways_by.Given as goal

abbrev pub invariant-loop-i : goal.invariant-loop-i
invariant-loop-i l = record {
  room_to : length l.to ≡ 16;
  room_from : length l.from ≡ 16;
  to : (k : ℕ) → k < l.i → shown_at l.to k ≡ shown_at l.bounds (k * l.nodes + l.pivot);
  from : (k : ℕ) → k < l.i → shown_at l.from k ≡ shown_at l.bounds (l.pivot * l.nodes + k);
}
