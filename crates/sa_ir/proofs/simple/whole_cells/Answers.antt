use Rattle.std.proofs.Common.{◌∙◌}
use Rattle.sa_ir.proofs.SimpleLaws.{cells-none, cells-some}
use Rattle.sa_ir.proofs.simple.whole_cells.Goals as goal

pub returns-in-None : goal.returns-in-None
returns-in-None c = cells-none c.args.program.now c.args.var (c.in-None.ensures ∙ c.requires.seats c.args.var)

pub returns-in-Some : goal.returns-in-Some
returns-in-Some c = cells-some c.args.program.now c.args.var c.in-Some.seat (c.in-Some.ensures ∙ c.requires.seats c.args.var)
