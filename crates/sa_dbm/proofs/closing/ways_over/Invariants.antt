use Rattle.std.proofs.Common.{◌≡◌, ℕ, ◌+◌, ◌*◌, ◌<◌, length, Some}
use Rattle.sa_dbm.specs.Bounds.{plus}
use Rattle.sa_dbm.specs.Stored.{shown_at}
use Rattle.sa_dbm.proofs.closing.ways_over.Given as goal

abbrev pub invariant-loop-i : goal.invariant-loop-i
invariant-loop-i l = record {
  room_to : length l.over ≡ 16;
  room_from : length l.on ≡ 16;
  to : (k : ℕ) → k < l.i → shown_at l.over k ≡ plus (shown_at l.bounds (k * l.nodes + l.from)) (Some l.c);
  from : (k : ℕ) → k < l.i → shown_at l.on k ≡ shown_at l.bounds (l.to * l.nodes + k);
}
