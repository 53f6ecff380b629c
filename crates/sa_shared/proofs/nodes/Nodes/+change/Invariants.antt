use Rattle.std.proofs.Common.{◌-◌}
use Rattle.sa_shared.proofs.nodes.Nodes.+change.Given as goal

abbrev pub decreases-change : goal.decreases-change
decreases-change g l = l.over.to - l.over.from
