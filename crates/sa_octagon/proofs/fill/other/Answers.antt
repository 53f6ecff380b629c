use Rattle.std.proofs.Common.{arith}
use Rattle.sa_dbm.specs.Tables.{bar}
use Rattle.sa_octagon.proofs.fill.other.Goals as goal

pub returns-then-node-eq0 : goal.returns-then-node-eq0
unfolding bar
returns-then-node-eq0 c = grind arith

pub returns-else-node-eq0 : goal.returns-else-node-eq0
unfolding bar
returns-else-node-eq0 c = grind arith
