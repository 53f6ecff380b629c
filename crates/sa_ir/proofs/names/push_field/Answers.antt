use Rattle.std.proofs.Common.{◌∙◌, ◌<◌, List, length, sym, ap, refl, subst, arith, ℕ, ◌++◌}
use Rattle.sa_typed.specs.declared.shape.FieldDef.{FieldDef}
use Rattle.sa_typed.specs.declared.shape.StructDef.{StructDef}
use Rattle.sa_ir.specs.Naming.{dot_text}
use Rattle.sa_ir.proofs.InsideLemmas.{struct-there, has-field, field-there, next-field, def-is, table-there, row-is, field-is}
use Rattle.sa_ir.proofs.names.push_field.Goals as goal

pub bounds-as_slice-k : goal.bounds-as_slice-k
bounds-as_slice-k c = subst (λ (xs : List StructDef). c.args.k < length xs) (sym c.as_slice.ensures) (struct-there c.args.program.now c.args.at c.args.k c.requires.at c.requires.shape)

pub bounds-as_slice-k-2 : goal.bounds-as_slice-k-2
bounds-as_slice-k-2 c =
    let p = c.args.program.now in
    let d = c.index-as_slice-k.result in
    let there = def-is p c.args.at c.args.k c.as_slice.result.now d c.requires.at c.requires.shape c.as_slice.ensures c.index-as_slice-k.is in
    table-there p c.args.k d c.args.structs.now c.as_slice-2.result.now there c.requires.structs c.as_slice-2.ensures

pub field_at-f-requires : goal.field_at-f-requires
field_at-f-requires c =
    let p = c.args.program.now in
    let d = c.index-as_slice-k.result in
    let there = def-is p c.args.at c.args.k c.as_slice.result.now d c.requires.at c.requires.shape c.as_slice.ensures c.index-as_slice-k.is in
    let says = c.as_slice-extents.ensures ∙ row-is p c.args.k d c.args.structs.now c.as_slice-2.result.now c.index-as_slice-k-2.result there c.requires.structs c.as_slice-2.ensures c.index-as_slice-k-2.is in
    has-field p c.args.at c.args.k c.requires.at c.requires.shape d c.as_slice-extents.result.now there says

pub offset_bounds-as_slice-f : goal.offset_bounds-as_slice-f
offset_bounds-as_slice-f c =
    let p = c.args.program.now in
    let d = c.index-as_slice-k.result in
    let there = def-is p c.args.at c.args.k c.as_slice.result.now d c.requires.at c.requires.shape c.as_slice.ensures c.index-as_slice-k.is in
    let says = c.as_slice-extents.ensures ∙ row-is p c.args.k d c.args.structs.now c.as_slice-2.result.now c.index-as_slice-k-2.result there c.requires.structs c.as_slice-2.ensures c.index-as_slice-k-2.is in
    let inside = field-there p c.args.at c.args.k c.requires.at c.requires.shape d c.as_slice-extents.result.now there says c.field_at-f.result c.field_at-f.ensures in
    let long = ap (λ (xs : List FieldDef). length xs) c.as_slice-3.ensures in
    omega (arith, inside, long)

pub bounds-as_slice-f : goal.bounds-as_slice-f
bounds-as_slice-f c =
    let p = c.args.program.now in
    let d = c.index-as_slice-k.result in
    let there = def-is p c.args.at c.args.k c.as_slice.result.now d c.requires.at c.requires.shape c.as_slice.ensures c.index-as_slice-k.is in
    let says = c.as_slice-extents.ensures ∙ row-is p c.args.k d c.args.structs.now c.as_slice-2.result.now c.index-as_slice-k-2.result there c.requires.structs c.as_slice-2.ensures c.index-as_slice-k-2.is in
    subst (λ (xs : List FieldDef). c.field_at-f.result < length xs) (sym c.as_slice-3.ensures)
    (field-there p c.args.at c.args.k c.requires.at c.requires.shape d c.as_slice-extents.result.now there says c.field_at-f.result c.field_at-f.ensures)

pub returns : goal.returns
returns c =
    let p = c.args.program.now in
    let d = c.index-as_slice-k.result in
    let f = c.field_at-f.result in
    let x = c.index-as_slice-f.result in
    let there = def-is p c.args.at c.args.k c.as_slice.result.now d c.requires.at c.requires.shape c.as_slice.ensures c.index-as_slice-k.is in
    let says = c.as_slice-extents.ensures ∙ row-is p c.args.k d c.args.structs.now c.as_slice-2.result.now c.index-as_slice-k-2.result there c.requires.structs c.as_slice-2.ensures c.index-as_slice-k-2.is in
    let inside = field-there p c.args.at c.args.k c.requires.at c.requires.shape d c.as_slice-extents.result.now there says f c.field_at-f.ensures in
    let at = field-is d f c.as_slice-3.result.now x c.as_slice-3.ensures inside c.index-as_slice-f.is in
    next-field p c.args.at c.args.k c.requires.at c.requires.shape d c.as_slice-extents.result.now there says f c.field_at-f.ensures _ x at c.as_slice-4.ensures refl refl refl refl _ _ (c.in_ok-push_dot.ensures ∙ ap (λ (y : List ℕ). c.args.text.now.items ++ dot_text y) c.bytes.ensures)
