use Rattle.std.proofs.Common.{◌≡◌, drop}
use Rattle.sa_reference.specs.Values.{named}
use Rattle.sa_cells.specs.Places.{place_layout, IsPlace}
use Rattle.sa_cells.specs.Reached.{reached}
use Rattle.sa_cells.proofs.place.named.Given as goal

abbrev pub invariant-loop-reach : goal.invariant-loop-reach
invariant-loop-reach l = record {
  place : IsPlace l.program l.place;
  same : named l.program l.fn.var l.reaches ≡ reached (drop l.reach-index l.reaches) (place_layout l.program l.place) l.place.firsts.items;
}
