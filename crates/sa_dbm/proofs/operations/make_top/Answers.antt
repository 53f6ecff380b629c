use Rattle.std.proofs.Common.{◌∙◌}
use Rattle.sa_dbm.proofs.MatrixLaws.{top_stored}
use Rattle.sa_dbm.proofs.operations.make_top.Goals as goal

pub returns : goal.returns
returns c = top_stored c.args.vars c.clear.new.bounds (c.clear.auto.bounds ∙ c.requires.square) c.clear.ensures
