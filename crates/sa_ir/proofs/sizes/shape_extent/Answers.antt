use Rattle.std.proofs.Common.{◌∙◌, ap, List, ℕ}
use Rattle.sa_ir.specs.Sizes.{extent_of, among, shape_of}
use Rattle.sa_ir.proofs.sizes.shape_extent.Goals as goal

pub returns : goal.returns
returns c = c.dims_extent.ensures ∙ ap (λ (ds : List ℕ). extent_of (among c.args.program.now.structs c.args.structs (shape_of ds c.args.shape.now.plain))) c.as_slice.ensures
