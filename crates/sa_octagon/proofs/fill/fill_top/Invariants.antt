use Rattle.std.proofs.Common.{◌*◌, length}
use Rattle.sa_octagon.specs.Packs.{reach_between}
use Rattle.sa_octagon.specs.Filled.{IsFilled}
use Rattle.sa_octagon.proofs.fill.fill_top.Given as goal

abbrev pub invariant-loop-at : goal.invariant-loop-at
invariant-loop-at l = IsFilled (2 * length l.spans) (reach_between l.spans) l.at l.matrix
