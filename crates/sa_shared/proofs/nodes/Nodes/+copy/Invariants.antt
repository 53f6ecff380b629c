use Rattle.sa_shared.proofs.nodes.Nodes.+copy.Given as goal

abbrev pub decreases-copy : goal.decreases-copy
decreases-copy g l = l.slots
