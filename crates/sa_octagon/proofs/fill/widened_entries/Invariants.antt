use Rattle.std.proofs.Common.{◌≡◌, ◌*◌, length}
use Rattle.sa_octagon.specs.Filled.{widened_entry, HoldsEntries}
use Rattle.sa_octagon.proofs.fill.widened_entries.Given as goal

abbrev pub invariant-loop-at : goal.invariant-loop-at
invariant-loop-at l = record {
  room : length l.entries ≡ 256;
  entries : HoldsEntries (2 * length l.spans) (widened_entry l.old l.new l.spans) l.at l.entries;
}
