use Rattle.std.proofs.Common.{◌≡◌, ◌≤◌, drop, length}
use Rattle.std.specs.Prelude.{option_map}
use Rattle.sa_ir.specs.Slots.{values_of}
use Rattle.sa_ir.specs.Spots.{ends_span}
use Rattle.sa_ir.proofs.slots.ends_of.Given as goal

abbrev pub invariant-loop-i : goal.invariant-loop-i
invariant-loop-i l = record {
  inside : l.i ≤ length l.at;
  ends : option_map ends_span l.ends ≡ values_of l.values (drop l.i l.at) l.elements.more;
}

abbrev pub decreases-loop-i : goal.decreases-loop-i
decreases-loop-i l = l.i
