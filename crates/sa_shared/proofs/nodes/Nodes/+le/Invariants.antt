use Rattle.sa_shared.proofs.nodes.Nodes.+le.Given as goal

abbrev pub decreases-le : goal.decreases-le
decreases-le g l = l.slots
