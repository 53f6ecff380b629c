use Rattle.std.proofs.Common.{◌∙◌, sym, ap}
use Rattle.sa_typed.specs.declared.program.Home.TheVariants as home
use Rattle.sa_ir.specs.declared.table.Section.{Section}
use Rattle.sa_ir.specs.Cursors.{cells_ahead}
use Rattle.sa_ir.proofs.PlaceLaws.{section-cells}
use Rattle.sa_ir.proofs.places.cells_ahead.Goals as goal

pub returns-in-Static : goal.returns-in-Static
returns-in-Static c =
    c.cells.ensures ∙ ap (λ (s : Section). s.cells) (c.requires.sections home.Global) ∙ section-cells c.args.program.now home.Global
    ∙ sym (ap (cells_ahead c.args.program.now c.args.first) c.in-Static.is)
