use Rattle.std.proofs.Common.{◌∙◌, ap, arith}
use Rattle.std.proofs.lemmas.List.{nil_from_length}
use Rattle.sa_ir.specs.declared.sizes.Extent.{Extent}
use Rattle.sa_ir.proofs.GroundLemmas.{covers-all}
use Rattle.sa_ir.proofs.PlaceLaws.{covers-fewer, tail-is, stride-plain, stride-large, stride-small}
use Rattle.sa_ir.proofs.places.stride.Goals as goal

pub dims_extent-requires : goal.dims_extent-requires
dims_extent-requires c =
    let p = c.args.program.now in
    covers-fewer p.structs c.args.at.structs c.as_slice.result.now c.requires.at (covers-all p.structs c.as_slice.result.now (c.as_slice.ensures ∙ c.requires.table.structs))

pub returns-in-empty : goal.returns-in-empty
returns-in-empty c = let h = c.in-empty.len_below in stride-plain c.args.program.now c.args.at (nil_from_length c.args.at.dims.now (omega (arith, h)))

pub returns-then-n-gt128 : goal.returns-then-n-gt128
returns-then-n-gt128 c = let h = c.in-len1-up.len_at_least in stride-large c.args.program.now c.args.at _ _ (tail-is c.args.at.dims.now h) c.if-n-gt128.true

pub returns-else-n-gt128 : goal.returns-else-n-gt128
returns-else-n-gt128 c =
    let h = c.in-len1-up.len_at_least in
    ap (λ (e : Extent). e.cells) c.dims_extent.ensures ∙ stride-small c.args.program.now c.args.at _ _ (tail-is c.args.at.dims.now h) c.if-n-gt128.false
