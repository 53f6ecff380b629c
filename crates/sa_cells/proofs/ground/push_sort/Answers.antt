use Rattle.std.proofs.Common.{◌≡◌, ◌∙◌, ◌++◌, ap, sym, subst, List, length, drop, get_or, arith}
use Rattle.std.specs.Prelude.{if◌then◌else◌, []}
use Rattle.sa_typed.specs.Cells.{cells_at}
use Rattle.sa_typed.specs.Layouts.{shape_layout}
use Rattle.sa_typed.specs.declared.program.Var.{Var}
use Rattle.sa_cells.specs.declared.slots.Slot.{Slot}
use Rattle.sa_cells.specs.Spots.{all_slots}
use Rattle.sa_cells.specs.Stretches.{sort_test, bare_slots}
use Rattle.sa_cells.proofs.GroundLemmas.{bare-more, bare-end}
use Rattle.sa_cells.proofs.ground.push_sort.Goals as goal

pub loop-var-preserved : goal.loop-var-preserved
loop-var-preserved c =
    let p = c.args.program.now in
    let n = ap length c.as_slice-var-items.ensures in
    let h = c.loop-var-test.true in
    bare-more p (sort_test c.args.sort) c.loop-var.var-index c.var-item.result c.loop-var.all.items c.push_var.new.all.items
    (c.args.all.now.items ++ bare_slots (cells_at p (sort_test c.args.sort) 0 p.vars)) (omega (arith, n, h))
    (c.in_ok-push_var.ensures
    ∙ ap (λ (x : Var). c.loop-var.all.items ++ (if sort_test c.args.sort x.home then all_slots [] (shape_layout p.structs x.shape) else []))
    (c.var-item.is ∙ ap (λ (l : List Var). get_or l c.loop-var.var-index c.var-item.result) c.as_slice-var-items.ensures))
    c.loop-var.invariant

pub returns : goal.returns
returns c =
    let p = c.args.program.now in
    let n = ap length c.as_slice-var-items.ensures in
    let h = c.loop-var-test.false in
    bare-end p (sort_test c.args.sort) c.loop-var.var-index c.loop-var.all.items (c.args.all.now.items ++ bare_slots (cells_at p (sort_test c.args.sort) 0 p.vars)) (omega (arith, n, h)) c.loop-var.invariant
