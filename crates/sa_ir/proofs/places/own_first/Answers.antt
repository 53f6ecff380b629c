use Rattle.std.proofs.Common.{◌≡◌, ◌∙◌, sym, ap, List, slice_get, Some, arith}
use Rattle.sa_typed.specs.declared.program.Var.{Var}
use Rattle.sa_ir.proofs.PlaceLaws.{own-nowhere, own-is}
use Rattle.sa_ir.proofs.places.own_first.Goals as goal

pub returns-in_default : goal.returns-in_default
returns-in_default c =
    own-nowhere c.args.program.now c.args.first c.args.var (sym (c.in_default.ensures ∙ ap (λ (l : List Var). slice_get l c.args.var) c.as_slice.ensures))

pub returns : goal.returns
returns c =
    let there : slice_get c.args.program.now.vars c.args.var ≡ Some c.in-Some.known.now = sym (c.in-Some.ensures ∙ ap (λ (l : List Var). slice_get l c.args.var) c.as_slice.ensures) in
    let few = c.in_ok-cell.ensures.few in
    let e = c.in_ok-cell.ensures.value in
    own-is c.args.program.now c.args.first c.args.var c.in-Some.known.now c.in-Some-seat.seat c.in_ok-cell.cell c.cells_ahead-ahead.result there
    (c.in-Some-seat.ensures ∙ c.requires.seats c.args.var) c.cells_ahead-ahead.ensures (e ∙ c.saturating_add.ensures) (omega (arith, e, few))
