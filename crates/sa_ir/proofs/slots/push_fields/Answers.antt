use Rattle.std.proofs.Common.{◌≡◌, ◌∙◌, ◌-◌, ◌≤◌, ◌++◌, ap, refl, sym, List, length, drop, get_or, append_assoc, ◌^◌, arith, rules}
use Rattle.std.proofs.lemmas.Option.{slice_get_read}
use Rattle.sa_typed.specs.Layouts.{before_field}
use Rattle.sa_typed.specs.declared.shape.FieldDef.{FieldDef}
use Rattle.sa_typed.specs.declared.shape.StructDef.{StructDef}
use Rattle.sa_ir.specs.declared.slots.Elements.{Elements}
use Rattle.sa_ir.specs.declared.slots.Slot.{Slot}
use Rattle.sa_ir.specs.Sizes.{among, fields_of}
use Rattle.sa_ir.specs.Slots.{slots_in, moved_on, fields_in}
use Rattle.sa_ir.specs.Spots.{left, work, works}
use Rattle.sa_ir.proofs.FieldLemmas.{fields-step, works-step, fields-last, fields-whole, works-whole, in-table, extents-long, moved-by}
use Rattle.sa_ir.proofs.slots.push_fields.Goals as goal

pub bounds-table-k : goal.bounds-table-k
bounds-table-k c =
    let d = c.index-as_slice-k.result in
    let made = slice_get_read c.args.program.now.structs _ c.args.k d refl c.requires.inside (c.index-as_slice-k.is ∙ ap (λ (l : List StructDef). get_or l c.args.k d) c.as_slice.ensures) in
    in-table c.args.program.now.structs c.args.k d made (length c.args.program.now.structs) c.args.table.now c.requires.table c.requires.inside

pub loop-f-init : goal.loop-f-init
loop-f-init c =
    let p = c.args.program.now.structs in
    let fs = c.as_slice-fields.result.now in
    record {
      inside = omega arith;
      known = c.requires.known;
      slots = ap (λ (l : List Slot). l ++ left p c.args.values.now c.args.todo.now.items)
          (sym (fields-last p c.args.k fs c.args.values.now (before_field (fields_of p c.args.k fs) (length fs)) c.args.elements.now));
      work = omega arith;
    }

pub bounds-extents-f : goal.bounds-extents-f
bounds-extents-f c =
    let d = c.index-as_slice-k.result in
    let made = slice_get_read c.args.program.now.structs _ c.args.k d refl c.requires.inside (c.index-as_slice-k.is ∙ ap (λ (l : List StructDef). get_or l c.args.k d) c.as_slice.ensures) in
    let long = extents-long c.args.program.now.structs c.args.k d made (length c.args.program.now.structs) c.args.table.now c.requires.table c.requires.inside c.index-table-k.result c.index-table-k.is in
    let same = ap length c.as_slice-extents.ensures in
    let fs = ap length (c.as_slice-fields.ensures ∙ ap (λ (x : StructDef). x.fields) (sym c.index-as_slice-k.is)) in
    let in' = c.loop-f.invariant.inside in
    omega (arith, long, same, fs, in')

pub loop-f-preserved : goal.loop-f-preserved
loop-f-preserved c =
    let p = c.args.program.now.structs in
    let k = c.args.k in
    let zs = c.args.values.now in
    let d = c.index-as_slice-k.result in
    let made = slice_get_read p _ k d refl c.requires.inside (c.index-as_slice-k.is ∙ ap (λ (l : List StructDef). get_or l k d) c.as_slice.ensures) in
    let fs = c.as_slice-fields.result.now in
    let same : fs ≡ d.fields = c.as_slice-fields.ensures ∙ ap (λ (x : StructDef). x.fields) (sym c.index-as_slice-k.is) in
    let long = ap length same in
    let f = c.loop-f.f in
    let e = c.args.elements.now in
    let in' = c.loop-f.invariant.inside in
    let pos = c.loop-f-test.true in
    let b = before_field (fields_of p k fs) (f - 1) in
    let wf = c.well_formed in
    let fits : length zs ≤ 2 ^ 64 - 1 = search (rules, arith) in
    let shape : c.index-fields-f.result ≡ get_or fs (f - 1) c.index-fields-f.result = c.index-fields-f.is in
    let s = among p k (get_or fs (f - 1) c.index-fields-f.result).shape in
    let at : c.in_ok-at.at ≡ moved_on (length zs) b e
    = c.in_ok-at.ensures
    ∙ moved-by p k d made (length p) c.args.table.now c.requires.table c.requires.inside (length zs) c.index-table-k.result c.as_slice-extents.result.now (f - 1) _ e fits c.index-table-k.is
    c.as_slice-extents.ensures (omega (arith, in', long))
    ∙ ap (λ (l : List FieldDef). moved_on (length zs) (before_field (fields_of p k l) (f - 1)) e) (sym same) in
    let todo0 = left p zs c.args.todo.now.items in
    let step = fields-step p k fs zs e f c.index-fields-f.result pos in' in
    let works' = works-step p k fs f c.index-fields-f.result pos in' in
    let w = c.in_ok-push_spots.ensures.work in
    let v = c.loop-f.invariant.work in
    let same_work : work (among p k c.index-fields-f.result.shape) ≡ work s = ap (λ (x : FieldDef). work (among p k x.shape)) shape in
    record {
      inside = omega (arith, in');
      known = c.push_spots.ensures.known;
      slots =
          (let h : left p zs c.push_spots.new.todo.items ≡ slots_in zs s c.in_ok-at.at ++ left p zs c.loop-f.todo.items = c.in_ok-push_spots.ensures.slots in h)
          ∙ ap (λ (x : Elements). slots_in zs s x ++ left p zs c.loop-f.todo.items) at
          ∙ ap (λ (l : List Slot). slots_in zs s (moved_on (length zs) b e) ++ l) c.loop-f.invariant.slots
          ∙ sym (append_assoc (slots_in zs s (moved_on (length zs) b e)) (fields_in zs (fields_of p k (drop f fs)) (before_field (fields_of p k fs) f) e) todo0)
          ∙ ap (λ (l : List Slot). l ++ todo0) (sym step);
      work = omega (arith, w, v, same_work, works');
    }

pub returns-clause-slots : goal.returns-clause-slots
returns-clause-slots c =
    let p = c.args.program.now.structs in
    let k = c.args.k in
    let zs = c.args.values.now in
    let d = c.index-as_slice-k.result in
    let made = slice_get_read p _ k d refl c.requires.inside (c.index-as_slice-k.is ∙ ap (λ (l : List StructDef). get_or l k d) c.as_slice.ensures) in
    let same : c.as_slice-fields.result.now ≡ d.fields = c.as_slice-fields.ensures ∙ ap (λ (x : StructDef). x.fields) (sym c.index-as_slice-k.is) in
    let todo0 = left p zs c.args.todo.now.items in
    c.loop-f.invariant.slots
    ∙ ap (λ (fs : List FieldDef). fields_in zs (fields_of p k (drop c.loop-f.f fs)) (before_field (fields_of p k fs) c.loop-f.f) c.args.elements.now ++ todo0) same
    ∙ ap (λ (l : List Slot). l ++ todo0) (fields-whole p k d made zs c.args.elements.now c.loop-f.f c.loop-f-test.false)

pub returns-clause-work : goal.returns-clause-work
returns-clause-work c =
    let p = c.args.program.now.structs in
    let k = c.args.k in
    let d = c.index-as_slice-k.result in
    let made = slice_get_read p _ k d refl c.requires.inside (c.index-as_slice-k.is ∙ ap (λ (l : List StructDef). get_or l k d) c.as_slice.ensures) in
    let same : c.as_slice-fields.result.now ≡ d.fields = c.as_slice-fields.ensures ∙ ap (λ (x : StructDef). x.fields) (sym c.index-as_slice-k.is) in
    let whole = works-whole p k d made c.loop-f.f c.loop-f-test.false in
    let fs = ap (λ (fs : List FieldDef). works (fields_of p k (drop c.loop-f.f fs))) same in
    let v = c.loop-f.invariant.work in
    omega (arith, whole, fs, v)
