use Rattle.sa_shared.proofs.nodes.Nodes.+get.Given as goal

abbrev pub decreases-get : goal.decreases-get
decreases-get g l = l.slots
