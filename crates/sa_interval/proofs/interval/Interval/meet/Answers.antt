use Rattle.std.proofs.Common.{◌≡◌, ◌<ℤ◌, to_z, of_z, arith}
use mir.Syntax.{w128}
use Rattle.std.specs.Int.{int_max, int_min}
use Rattle.std.proofs.lemmas.Int.{ints, clamps}
use Rattle.sa_interval.proofs.Lattice.{meet_is, disjoint_is}
use Rattle.sa_interval.proofs.interval.Interval.meet.Goals as goal

pub returns-then-lo-hi-clause-cases : goal.returns-then-lo-hi-clause-cases
returns-then-lo-hi-clause-cases c =
    let lo : to_z w128 (of_z w128 c.max-lo.result) ≡ int_max c.self.inside.lo c.o.inside.lo = omega (arith, ints, clamps) in
    let hi : to_z w128 (of_z w128 c.min-hi.result) ≡ int_min c.self.inside.hi c.o.inside.hi = omega (arith, ints, clamps) in
    rw (lo, hi, ← c.self.view_is, ← c.o.view_is) (meet_is _ _)

pub returns-else-lo-hi-clause-cases : goal.returns-else-lo-hi-clause-cases
returns-else-lo-hi-clause-cases c =
    let apart : int_min c.self.inside.hi c.o.inside.hi <ℤ int_max c.self.inside.lo c.o.inside.lo = omega (arith, ints, clamps) in
    rw (← c.self.view_is, ← c.o.view_is) (disjoint_is _ _ apart)
