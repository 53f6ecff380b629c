use Rattle.std.proofs.Common.{◌≡◌, ◌++◌, ◌||◌, drop}
use Rattle.std.specs.List.{flat_map}
use Rattle.sa_ir.specs.Slots.{run, any_stops}
use Rattle.sa_ir.proofs.slots.together.Given as goal

abbrev pub invariant-loop-o : goal.invariant-loop-o
invariant-loop-o l = record {
  at : l.at.items ++ flat_map (λ o. run l.len l.row.width l.row.n o) (drop l.o-index l.o-items) ≡ flat_map (λ o. run l.len l.row.width l.row.n o) l.o-items;
  more : (l.more || any_stops l.len l.row.width l.row.n (drop l.o-index l.o-items)) ≡ (l.initial.more || any_stops l.len l.row.width l.row.n l.o-items);
}
