use Rattle.std.proofs.Common.{◌∙◌, ap}
use Rattle.sa_typed.specs.Frames.{home_cells}
use Rattle.sa_typed.specs.declared.program.Home.TheVariants as home
use Rattle.sa_ir.specs.declared.table.Section.{Section}
use Rattle.sa_ir.proofs.PlaceLaws.{section-cells}
use Rattle.sa_lower.proofs.frames.kept_from.Goals as goal

pub returns : goal.returns
returns c =
    let p = c.args.program.now in
    let at = home.Local c.args.f in
    c.behind.ensures (home_cells p at) (c.cells-cells.ensures ∙ ap (λ (s : Section). s.cells) (c.requires.sections at) ∙ section-cells p at)
