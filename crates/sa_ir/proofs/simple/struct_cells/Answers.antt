use Rattle.std.proofs.Common.{◌∙◌, ap, subst, sym, ℕ}
use Rattle.sa_typed.specs.Frames.{size}
use Rattle.sa_typed.specs.Layouts.{Layout}
use Rattle.sa_ir.specs.declared.sizes.Extent.{Extent}
use Rattle.sa_ir.specs.Sizes.{capped, Covers}
use Rattle.sa_ir.proofs.GroundLemmas.{covers-all}
use Rattle.sa_ir.proofs.SimpleLaws.{struct-whole}
use Rattle.sa_ir.proofs.simple.struct_cells.Goals as goal

pub dims_extent-requires : goal.dims_extent-requires
dims_extent-requires c =
    let p = c.args.program.now in
    subst (λ (m : ℕ). Covers p.structs m c.as_slice.result.now) (sym c.len-structs.ensures) (covers-all p.structs c.as_slice.result.now (c.as_slice.ensures ∙ c.requires.structs))

pub returns : goal.returns
returns c =
    ap (λ (e : Extent). e.cells) c.dims_extent.ensures ∙ ap (λ (l : Layout). capped (size l)) (struct-whole c.args.program.now c.len-structs.result c.args.k c.len-structs.ensures)
