use Rattle.std.proofs.Common.{◌≡◌, ◌∙◌, ap, refl, sym, subst, List, length, get_or, arith}
use Rattle.std.proofs.lemmas.Option.{slice_get_read}
use Rattle.sa_typed.specs.Cells.{cells_at}
use Rattle.sa_typed.specs.declared.program.Var.{Var}
use Rattle.sa_cells.proofs.GroundLemmas.{count-more}
use Rattle.sa_cells.proofs.ground.count.Goals as goal

pub loop-var-init : goal.loop-var-init
unfolding cells_at
loop-var-init c = refl

pub loop-var-preserved : goal.loop-var-preserved
loop-var-preserved c =
    let p = c.args.program.now in
    let n = ap length c.as_slice-var-items.ensures in
    let h = c.loop-var-test.true in
    let at = slice_get_read p.vars _ c.loop-var.var-index c.var-item.result refl (omega (arith, n, h))
    (c.var-item.is ∙ ap (λ (l : List Var). get_or l c.loop-var.var-index c.var-item.result) c.as_slice-var-items.ensures) in
    count-more p c.requires.few c.args.sort c.loop-var.var-index c.var-item.result c.loop-var.cells c.with_cells-cells.result at c.loop-var.invariant c.with_cells-cells.ensures
