use Rattle.std.proofs.Common.{◌≡◌, to_z, of_z, arith}
use mir.Syntax.{w128}
use Rattle.std.specs.Int.{int_max}
use Rattle.std.proofs.lemmas.Int.{ints, clamps}
use Rattle.sa_interval.proofs.interval.Interval.mask_of_highs.Goals as goal

pub returns-clause-above : goal.returns-clause-above
returns-clause-above c =
    let highs : to_z w128 (of_z w128 c.max.result) ≡ int_max c.self.inside.hi c.o.inside.hi = omega (arith, ints, clamps) in
    let above = c.least_mask.ensures.above in
    rw (← c.self.view_is, ← c.o.view_is) (omega (arith, ints, clamps), omega (arith, ints, clamps))
