use Rattle.std.proofs.Common.{◌∙◌, refl, sym, ap, List, get_or, slice_get}
use Rattle.std.proofs.lemmas.Option.{slice_get_read}
use Rattle.sa_typed.specs.declared.shape.FieldDef.{FieldDef}
use Rattle.sa_typed.specs.declared.shape.StructDef.{StructDef}
use Rattle.sa_ir.proofs.InsideLemmas.{table-there, row-is}
use Rattle.sa_ir.proofs.PlaceLaws.{field-some, field-none}
use Rattle.sa_ir.proofs.places.struct_field.Goals as goal

pub bounds-as_slice-k-2 : goal.bounds-as_slice-k-2
bounds-as_slice-k-2 c =
    let p = c.args.program.now in
    let d = c.index-as_slice-k.result in
    let there = slice_get_read p.structs _ c.args.k d refl c.requires.inside (c.index-as_slice-k.is ∙ ap (λ (l : List StructDef). get_or l c.args.k d) c.as_slice.ensures) in
    table-there p c.args.k d c.args.table.now.structs c.as_slice-2.result.now there c.requires.table.structs c.as_slice-2.ensures

pub returns-in-None : goal.returns-in-None
returns-in-None c =
    let p = c.args.program.now in
    let d = c.index-as_slice-k.result in
    let there = slice_get_read p.structs _ c.args.k d refl c.requires.inside (c.index-as_slice-k.is ∙ ap (λ (l : List StructDef). get_or l c.args.k d) c.as_slice.ensures) in
    let says = c.as_slice-extents.ensures ∙ row-is p c.args.k d c.args.table.now.structs c.as_slice-2.result.now c.index-as_slice-k-2.result there c.requires.table.structs c.as_slice-2.ensures c.index-as_slice-k-2.is in
    field-none p c.args.k c.args.f d there c.requires.inside _ c.as_slice-extents.result.now says c.cells_to-cells.ensures
    (sym (c.in-None.ensures ∙ ap (λ (l : List FieldDef). slice_get l c.args.f) c.as_slice-3.ensures)) c.nothing.ensures.dims c.nothing.ensures.plain c.nothing.ensures.structs

pub returns-in-Some : goal.returns-in-Some
returns-in-Some c =
    let p = c.args.program.now in
    let d = c.index-as_slice-k.result in
    let there = slice_get_read p.structs _ c.args.k d refl c.requires.inside (c.index-as_slice-k.is ∙ ap (λ (l : List StructDef). get_or l c.args.k d) c.as_slice.ensures) in
    let says = c.as_slice-extents.ensures ∙ row-is p c.args.k d c.args.table.now.structs c.as_slice-2.result.now c.index-as_slice-k-2.result there c.requires.table.structs c.as_slice-2.ensures c.index-as_slice-k-2.is in
    field-some p c.args.k c.args.f d there c.requires.inside _ c.as_slice-extents.result.now says c.cells_to-cells.ensures c.in-Some.field.now
    (sym (c.in-Some.ensures ∙ ap (λ (l : List FieldDef). slice_get l c.args.f) c.as_slice-3.ensures)) c.as_slice-in-Some.ensures refl refl
