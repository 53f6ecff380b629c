use Rattle.std.proofs.Common.{refl, arith}
use Rattle.std.proofs.lemmas.List.{nil_from_length}
use Rattle.sa_ir.proofs.StepLemmas.{here}
use Rattle.sa_ir.proofs.PlaceLaws.{field-stays, array-none, scalar-none, beyond-none, struct-here}
use Rattle.sa_ir.proofs.places.field.Goals as goal

pub returns-in-Scalar : goal.returns-in-Scalar
returns-in-Scalar c =
    let h = c.in-empty.len_below in
    field-stays c.args.program.now c.args.at _ c.args.f c.requires.at (scalar-none c.args.program.now c.args.at _ (nil_from_length c.args.at.dims.now (omega (arith, h))) c.in-Scalar.is) refl refl

pub returns-then-at-k : goal.returns-then-at-k
returns-then-at-k c =
    let h = c.in-empty.len_below in
    field-stays c.args.program.now c.args.at _ c.args.f c.requires.at (beyond-none c.args.program.now c.args.at c.in-Struct.k c.requires.at (nil_from_length c.args.at.dims.now (omega (arith, h))) c.in-Struct.is c.if-at-k.true) refl refl

pub returns-else-at-k : goal.returns-else-at-k
returns-else-at-k c =
    let h = c.in-empty.len_below in
    let p = c.args.program.now in
    let less = c.if-at-k.false in
    let known = c.requires.at in
    let d = here p.structs c.in-Struct.k (omega (arith, less, known)) in
    struct-here p c.args.at c.in-Struct.k c.args.f d.0 c.struct_field.result known (nil_from_length c.args.at.dims.now (omega (arith, h))) c.in-Struct.is less d.1 c.struct_field.ensures

pub returns-in-len1-up : goal.returns-in-len1-up
returns-in-len1-up c = field-stays c.args.program.now c.args.at _ c.args.f c.requires.at (array-none c.args.program.now c.args.at c.in-len1-up.len_at_least) refl refl
