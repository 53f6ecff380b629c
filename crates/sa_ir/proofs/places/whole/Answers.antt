use Rattle.std.proofs.Common.{◌∙◌, refl, sym, ap, List, slice_get}
use Rattle.sa_typed.specs.declared.program.Var.{Var}
use Rattle.sa_ir.proofs.PlaceLaws.{whole-none, whole-some}
use Rattle.sa_ir.proofs.places.whole.Goals as goal

pub returns-in-None : goal.returns-in-None
returns-in-None c =
    whole-none c.args.program.now c.args.var c.nothing.result (sym (c.in-None.ensures ∙ ap (λ (l : List Var). slice_get l c.args.var) c.as_slice.ensures)) c.nothing.ensures.dims c.nothing.ensures.plain c.nothing.ensures.structs

pub returns-in-Some : goal.returns-in-Some
returns-in-Some c =
    whole-some c.args.program.now c.args.var c.in-Some.known.now _ (sym (c.in-Some.ensures ∙ ap (λ (l : List Var). slice_get l c.args.var) c.as_slice.ensures)) c.as_slice-in-Some.ensures refl c.len.ensures
