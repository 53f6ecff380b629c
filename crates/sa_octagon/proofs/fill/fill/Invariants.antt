use Rattle.sa_octagon.specs.Filled.{at_place, IsFilled}
use Rattle.sa_octagon.proofs.fill.fill.Given as goal

abbrev pub invariant-loop-at : goal.invariant-loop-at
invariant-loop-at l = IsFilled l.count (at_place l.entries) l.at l.matrix
