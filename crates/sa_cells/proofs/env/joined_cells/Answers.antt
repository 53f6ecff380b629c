use Rattle.std.proofs.Common.{◌∙◌, arith}
use Rattle.sa_interval.specs.Rows.{join_of}
use Rattle.sa_cells.proofs.EnvLemmas.{zip-end}
use Rattle.sa_cells.proofs.env.joined_cells.Goals as goal

pub returns : goal.returns
returns c = c.from_vec.ensures ∙ zip-end join_of c.args.a.now c.args.b.now c.loop-k.k c.loop-k.cells.items (omega arith) c.loop-k.invariant
