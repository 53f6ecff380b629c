use Rattle.std.proofs.Common.{◌-◌}
use Rattle.sa_shared.proofs.nodes.Nodes.+combine.Given as goal

abbrev pub decreases-combine : goal.decreases-combine
decreases-combine g l = l.over.to - l.over.from
