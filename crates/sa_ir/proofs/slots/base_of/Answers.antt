use Rattle.std.proofs.Common.{◌∙◌, ap, sym, subst, arith, Option, Some, None, false}
use Rattle.std.proofs.lemmas.Option.{slice_get-get_or}
use Rattle.sa_typed.specs.declared.shape.Plain.{Plain}
use Rattle.sa_ir.specs.declared.slots.Core.{Core}
use Rattle.sa_ir.specs.Spots.{IsNothing, IsBase}
use Rattle.sa_ir.proofs.SpotLemmas.{none-past}
use Rattle.sa_ir.proofs.CoreLemmas.{scalar-base, struct-base, listed-base}
use Rattle.sa_ir.proofs.slots.base_of.Goals as goal

pub returns-in-Scalar : goal.returns-in-Scalar
returns-in-Scalar c =
    let p = c.args.program.now.structs in
    subst (λ (x : Plain). IsBase p c.args.structs x (record { plain = x; starred = false })) (sym c.in-Scalar.is) (scalar-base p c.args.structs c.in-Scalar.field-0)

pub returns-then-structs-k : goal.returns-then-structs-k
returns-then-structs-k c =
    let p = c.args.program.now.structs in
    subst (λ (x : Plain). IsNothing p c.args.structs x) (sym c.in-Struct.is) (none-past p c.args.structs c.in-Struct.k c.requires.fits c.if-structs-k.true)

pub returns-in-None : goal.returns-in-None
returns-in-None c =
    let p = c.args.program.now.structs in
    subst (λ (x : Plain). IsBase p c.args.structs x (record { plain = x; starred = false })) (sym c.in-Struct.is)
    (struct-base p c.args.structs c.in-Struct.k c.requires.fits c.if-structs-k.false)

pub returns-in-Some : goal.returns-in-Some
returns-in-Some c =
    let p = c.args.program.now.structs in
    let less = c.if-structs-k.false in
    let known = c.requires.known in
    let k = c.in-Struct.k in
    let listed = slice_get-get_or c.args.cores.now k None (omega (arith, less, known)) ∙ ap (λ (o : Option Core). Some o) c.in-Some.is in
    subst (λ (x : Plain). IsBase p c.args.structs x c.in-Some.core) (sym c.in-Struct.is)
    (listed-base p c.args.structs k c.in-Some.core c.requires.fits less (c.requires.cores k c.in-Some.core listed))
