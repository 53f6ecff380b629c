use Rattle.std.proofs.Common.{◌≡◌, ◌∙◌, ◌+◌, ℕ, ap, refl, sym, length, arith}
use Rattle.sa_typed.specs.Cells.{cells, cells_at, is_global, is_static, is_local}
use Rattle.sa_cells.specs.Sizes.{first_cell}
use Rattle.sa_cells.specs.Stretches.{next_at}
use Rattle.sa_cells.proofs.GroundLemmas.{first-is}
use Rattle.sa_cells.proofs.ground.first_cells.Goals as goal

pub returns : goal.returns
returns c = first-is c.args.program.now c.requires.few c.count-globals.result c.count-statics.result c.saturating_add.result c.count-globals.ensures c.count-statics.ensures c.saturating_add.ensures
