use Rattle.sa_shared.proofs.nodes.Nodes.+join.Given as goal

abbrev pub decreases-join : goal.decreases-join
decreases-join g l = l.slots
