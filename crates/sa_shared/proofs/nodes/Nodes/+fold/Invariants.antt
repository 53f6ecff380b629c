use Rattle.std.proofs.Common.{◌-◌}
use Rattle.sa_shared.proofs.nodes.Nodes.+fold.Given as goal

abbrev pub decreases-fold : goal.decreases-fold
decreases-fold g l = l.over.to - l.over.from
