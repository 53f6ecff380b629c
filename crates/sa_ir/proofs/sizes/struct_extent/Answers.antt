use Rattle.std.proofs.Common.{◌∙◌, ◌-◌, ap, sym, List, length, slice_get}
use Rattle.sa_ir.specs.declared.sizes.Extent.{Extent}
use Rattle.sa_ir.proofs.StepLemmas.{not-both}
use Rattle.sa_ir.proofs.SizeLemmas.{beyond-extent, in-table, extents-some}
use Rattle.sa_ir.proofs.sizes.struct_extent.Goals as goal

pub returns-then-structs-k : goal.returns-then-structs-k
returns-then-structs-k c = sym (beyond-extent c.args.program.now.structs c.args.structs c.args.k c.requires.known c.if-structs-k.true)

pub returns-in_default : goal.returns-in_default
returns-in_default c = absurd (in-table c.args.program.now.structs c.args.structs c.args.table.now c.requires c.args.k c.if-structs-k.false (sym c.in_default.ensures))

pub returns-in-Some-last : goal.returns-in-Some-last
returns-in-Some-last c =
    let e = c.in-Some-last.ensures.value ∙ ap (λ (l : List Extent). slice_get l (length l - 1)) c.as_slice.ensures
    ∙ extents-some c.args.program.now.structs c.args.structs c.args.table.now c.requires c.args.k c.if-structs-k.false c.in-Some.fields.now (sym c.in-Some.ensures) in
    cc

pub returns-in-None : goal.returns-in-None
returns-in-None c =
    absurd (not-both _ _ (ap (λ (l : List Extent). slice_get l (length l - 1)) c.as_slice.ensures
    ∙ extents-some c.args.program.now.structs c.args.structs c.args.table.now c.requires c.args.k c.if-structs-k.false c.in-Some.fields.now (sym c.in-Some.ensures)) (sym c.in-None.ensures.value))
