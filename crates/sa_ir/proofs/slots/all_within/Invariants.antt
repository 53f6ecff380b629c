use Rattle.std.proofs.Common.{◌≡◌, ◌*◌, ℤ, List, length, vec_len}
use Rattle.std.specs.List.{flat_map}
use Rattle.sa_typed.specs.Layouts.{Layout}
use Rattle.sa_ir.specs.Slots.{slots_in}
use Rattle.sa_ir.specs.Spots.{wound, HasWidths, work}
use Rattle.sa_ir.proofs.slots.all_within.Given as goal

abbrev pub invariant-loop-row : goal.invariant-loop-row
invariant-loop-row l = record {
  widths : (b : Layout) → HasWidths l.initial.rows.items b → HasWidths l.rows.items b;
  slots : (zs : List ℤ) → (b : Layout) → length zs ≡ l.len → HasWidths l.initial.rows.items b →
      flat_map (slots_in zs (wound l.rows.items b)) l.all.items ≡ flat_map (slots_in zs (wound l.initial.rows.items b)) l.initial.all.items;
  work : (b : Layout) → length l.all.items * work (wound l.rows.items b) ≡ length l.initial.all.items * work (wound l.initial.rows.items b);
}

abbrev pub decreases-loop-row : goal.decreases-loop-row
decreases-loop-row l = vec_len l.rows
