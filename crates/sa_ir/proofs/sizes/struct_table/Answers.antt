use Rattle.std.proofs.Common.{◌∙◌, ◌+◌, ap, sym, List, length, reverse, take, get_or, arith}
use Rattle.sa_typed.specs.declared.shape.StructDef.{StructDef}
use Rattle.sa_typed.specs.declared.shape.FieldDef.{FieldDef}
use Rattle.sa_ir.specs.Sizes.{all_extents, extents_from, fields_of}
use Rattle.sa_ir.proofs.GroundLemmas.{covers-first, table-more}
use Rattle.sa_ir.proofs.sizes.struct_table.Goals as goal

pub loop-k-init : goal.loop-k-init
unfolding all_extents
loop-k-init c = c.in_ok-table.ensures.items

pub field_extents-requires : goal.field_extents-requires
field_extents-requires c =
    let p = c.args.program.now.structs in
    let n = ap length c.as_slice-structs.ensures in
    let h = c.loop-k-test.true in
    covers-first p c.loop-k.k c.deref.result.now (omega (arith, n, h))
    (c.deref.ensures.value ∙ c.loop-k.invariant ∙ ap (λ (l : List StructDef). all_extents (reverse (take c.loop-k.k l))) c.as_slice-structs.ensures)

pub loop-k-preserved : goal.loop-k-preserved
loop-k-preserved c =
    let p = c.args.program.now.structs in
    let n = ap length c.as_slice-structs.ensures in
    let h = c.loop-k-test.true in
    table-more p c.loop-k.k c.index-structs-k.result c.loop-k.table.items c.push.new.self.items c.in_ok-extents.extents (omega (arith, n, h))
    (c.loop-k.invariant ∙ ap (λ (l : List StructDef). all_extents (reverse (take c.loop-k.k l))) c.as_slice-structs.ensures)
    (c.in_ok-extents.ensures ∙ ap (λ (fs : List FieldDef). extents_from 0 0 (fields_of p c.loop-k.k fs)) c.as_slice.ensures
    ∙ ap (λ (l : List StructDef). extents_from 0 0 (fields_of p c.loop-k.k (get_or l c.loop-k.k c.index-structs-k.result).fields)) c.as_slice-structs.ensures)
    c.in_ok-push.ensures.items
    ∙ ap (λ (l : List StructDef). all_extents (reverse (take (c.loop-k.k + 1) l))) (sym c.as_slice-structs.ensures)
