use Rattle.std.proofs.Common.{◌≡◌, ◌∙◌, ap, ℕ, List, map}
use Rattle.std.specs.Prelude.{slice_get, Bool}
use Rattle.sa_interval.specs.Span.{Span}
use Rattle.sa_typed.specs.Cells.{cells}
use Rattle.sa_operators.specs.Operators.{range_of}
use Rattle.sa_cells.specs.declared.ground.Stretch.{Stretch}
use Rattle.sa_cells.specs.declared.slots.Slot.{Slot}
use Rattle.sa_cells.proofs.GroundLemmas.{covers-all, stretches-are, tops-are, stars-are}
use Rattle.sa_cells.proofs.ground.Ground.of.Goals as goal

pub stretches-requires-clause-table : goal.stretches-requires-clause-table
stretches-requires-clause-table c = covers-all c.args.program.now.structs c.as_slice.result.now (c.as_slice.ensures ∙ c.in_ok-structs.ensures)

pub bare_slots-requires-clause-table : goal.bare_slots-requires-clause-table
bare_slots-requires-clause-table c = covers-all c.args.program.now.structs c.as_slice-2.result.now (c.as_slice-2.ensures ∙ c.in_ok-structs.ensures)

pub returns : goal.returns
returns c = record {
  few = c.requires;
  tops = c.in_ok-tops.ensures ∙ ap (λ (l : List Slot). map (λ s. range_of s.num) l) (c.deref.ensures.value ∙ c.in_ok-slots.ensures) ∙ tops-are (cells c.args.program.now);
  starred = c.in_ok-stars.ensures ∙ ap (λ (l : List Slot). map (λ s. s.starred) l) (c.deref-2.ensures.value ∙ c.in_ok-slots.ensures) ∙ stars-are (cells c.args.program.now);
  vars = λ v. ap (λ (l : List Stretch). slice_get l v) c.in_ok-vars.ensures ∙ stretches-are c.args.program.now v;
  structs = c.in_ok-structs.ensures;
  cores = c.in_ok-cores.ensures;
}
