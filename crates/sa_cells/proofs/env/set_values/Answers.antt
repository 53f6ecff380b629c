use Rattle.std.proofs.Common.{◌≡◌, ◌∙◌, ◌+◌, ◌≤◌, ap, sym, refl, subst, ℤ, List, length, map, arith}
use Rattle.std.specs.List.{All}
use Rattle.std.proofs.lemmas.List.{length-map}
use Rattle.sa_interval.specs.Span.{Span}
use Rattle.sa_typed.specs.Layouts.{shape_layout, layout_of}
use Rattle.sa_typed.specs.Cells.{cells, cell_of, inner_cells}
use Rattle.sa_reference.specs.Environments.{items_span}
use Rattle.sa_reference.specs.Assignments.{set_cells}
use Rattle.sa_reference.specs.Fair.{AreIn}
use Rattle.sa_cells.specs.declared.slots.Slot.{Slot}
use Rattle.sa_cells.specs.Spots.{all_slots}
use Rattle.sa_cells.specs.Settings.{placed, slot_span, IsTypedSlot}
use Rattle.sa_cells.proofs.EnvLemmas.{length-in}
use Rattle.sa_cells.proofs.GroundLemmas.{covers-all}
use Rattle.sa_cells.proofs.StepLemmas.{not-both, stretch-known}
use Rattle.sa_cells.proofs.SetLemmas.{set-unknown, stretch-fits, length-inner, set-known, items-are, slots-typed, set-items-in}
use Rattle.sa_cells.proofs.env.set_values.Goals as goal

pub returns-in_default-clause-value : goal.returns-in_default-clause-value
returns-in_default-clause-value c = set-unknown (items_span c.args.program.now) c.args.var c.args.program.now c.args.spans.now (sym c.in_default.ensures.value)

pub slots-requires-clause-table : goal.slots-requires-clause-table
slots-requires-clause-table c = covers-all c.args.program.now.structs c.as_slice-table.result.now (c.as_slice-table.ensures ∙ c.requires.ground.structs)

pub slot_spans-requires : goal.slot_spans-requires
slot_spans-requires c =
    let p = c.args.program.now in
    let x = c.in-Some.known.now in
    let whole : c.deref.result.now ≡ all_slots x.initial (shape_layout p.structs x.shape)
    = c.deref.ensures.value ∙ c.in_ok-slots.ensures ∙ ap (λ (zs : List ℤ). all_slots zs (shape_layout p.structs x.shape)) c.as_slice-2.ensures in
    subst (λ (l : List Slot). All IsTypedSlot l) (sym whole)
    (slots-typed p c.args.var x c.in-Some-get.stretch.now (sym c.in-Some.ensures.value) (c.in-Some-get.ensures.value ∙ c.requires.ground.vars c.args.var) c.requires.typed)

pub place-requires-clause-fits : goal.place-requires-clause-fits
place-requires-clause-fits c =
    let p = c.args.program.now in
    let x = c.in-Some.known.now in
    let st = c.in-Some-get.stretch.now in
    let at = c.in-Some-get.ensures.value ∙ c.requires.ground.vars c.args.var in
    let fits = stretch-fits p c.args.var x st (sym c.in-Some.ensures.value) at c.requires.ground.few in
    let many = length-inner p c.args.var x st (sym c.in-Some.ensures.value) at in
    let new = c.deref-2.ensures.value ∙ c.in_ok-new.ensures
    ∙ ap (λ (l : List Slot). map slot_span l) (c.deref.ensures.value ∙ c.in_ok-slots.ensures ∙ ap (λ (zs : List ℤ). all_slots zs (shape_layout p.structs x.shape)) c.as_slice-2.ensures)
    ∙ items-are p c.args.var x st (sym c.in-Some.ensures.value) at in
    let n = ap length new ∙ length-map (inner_cells (layout_of p c.args.var)) (λ i. items_span p (cell_of c.args.var i)) in
    let m = length-in (cells p) c.args.spans.now c.requires.spans in
    omega (arith, fits, many, n, m)

pub place-requires-clause-few : goal.place-requires-clause-few
place-requires-clause-few c =
    let few = c.requires.ground.few in
    let m = length-in (cells c.args.program.now) c.args.spans.now c.requires.spans in
    omega (arith, few, m)

set-is : (c : goal.After-drop-slots-2) → c.place.new.spans ≡ set_cells (items_span c.args.program.now) c.args.var (cells c.args.program.now) c.args.spans.now
set-is c =
    let p = c.args.program.now in
    let x = c.in-Some.known.now in
    let st = c.in-Some-get.stretch.now in
    let at = c.in-Some-get.ensures.value ∙ c.requires.ground.vars c.args.var in
    let new = c.deref-2.ensures.value ∙ c.in_ok-new.ensures
    ∙ ap (λ (l : List Slot). map slot_span l) (c.deref.ensures.value ∙ c.in_ok-slots.ensures ∙ ap (λ (zs : List ℤ). all_slots zs (shape_layout p.structs x.shape)) c.as_slice-2.ensures)
    ∙ items-are p c.args.var x st (sym c.in-Some.ensures.value) at in
    c.place.ensures ∙ set-known p c.args.var x st (sym c.in-Some.ensures.value) at (items_span p) c.args.spans.now c.deref-2.result.now (length-in (cells p) c.args.spans.now c.requires.spans) new

pub returns-clause-value : goal.returns-clause-value
returns-clause-value c = set-is c

pub returns-clause-kept : goal.returns-clause-kept
returns-clause-kept c =
    let p = c.args.program.now in
    subst (λ (l : List Span). AreIn (cells p) l) (sym (set-is c))
    (set-items-in p c.args.var c.in-Some.known.now c.in-Some-get.stretch.now (sym c.in-Some.ensures.value) (c.in-Some-get.ensures.value ∙ c.requires.ground.vars c.args.var) c.requires.typed c.args.spans.now c.requires.spans)
