use Rattle.std.proofs.Common.{◌∙◌, ◌++◌, List, ℕ, ap}
use Rattle.std.specs.List.{flat_map}
use Rattle.sa_ir.specs.declared.ir.Cell.{Cell}
use Rattle.sa_ir.specs.Frames.{object_cells}
use Rattle.sa_ir.specs.Tables.{section_of}
use Rattle.sa_ir.proofs.CallLemmas.{flat-more, flat-end, home-cells}
use Rattle.sa_ir.proofs.cells.push_home.Goals as goal

pub loop-var-preserved : goal.loop-var-preserved
loop-var-preserved c =
    flat-more (object_cells c.args.program.now c.args.prefix.now) c.vars-var-items.result.now c.loop-var.var-index _ c.loop-var.cells.items _ _ c.loop-var-test.true
    c.in_ok-push_object.ensures c.loop-var.invariant

pub returns : goal.returns
returns c =
    let p = c.args.program.now in
    flat-end (object_cells p c.args.prefix.now) c.vars-var-items.result.now c.loop-var.var-index c.loop-var.cells.items _ c.loop-var-test.false c.loop-var.invariant
    ∙ ap (λ (l : List ℕ). c.args.cells.now.items ++ flat_map (object_cells p c.args.prefix.now) l) c.vars-var-items.ensures
    ∙ ap (λ (l : List Cell). c.args.cells.now.items ++ l) (home-cells p c.args.prefix.now c.args.home (section_of c.args.table.now.sections c.args.home) (c.requires.table.sections c.args.home))
