use Rattle.std.proofs.Common.{◌≡◌, ◌++◌, map, drop}
use Rattle.sa_cells.specs.Settings.{slot_span}
use Rattle.sa_cells.proofs.env.slot_spans.Given as goal

abbrev pub invariant-loop-slot : goal.invariant-loop-slot
invariant-loop-slot l = l.spans.items ++ map slot_span (drop l.slot-index l.slots) ≡ map slot_span l.slots
