use Rattle.std.proofs.Common.{refl, arith}
use Rattle.std.proofs.lemmas.List.{nil_from_length}
use Rattle.sa_ir.proofs.PlaceLaws.{tail-is, inner-plain, inner-array}
use Rattle.sa_ir.proofs.places.inner.Goals as goal

pub returns-in-empty : goal.returns-in-empty
returns-in-empty c = let h = c.in-empty.len_below in inner-plain c.args.program.now c.args.at c.requires (nil_from_length c.args.at.dims.now (omega (arith, h)))

pub returns-in-len1-up : goal.returns-in-len1-up
returns-in-len1-up c =
    let h = c.in-len1-up.len_at_least in
    inner-array c.args.program.now c.args.at _ _ _ c.requires (tail-is c.args.at.dims.now h) refl refl refl
