use Rattle.std.proofs.Common.{◌≡◌, to_z, of_z, arith}
use mir.Syntax.{w128}
use Rattle.std.specs.Int.{int_max, int_min}
use Rattle.std.proofs.lemmas.Int.{ints, clamps}
use Rattle.sa_interval.proofs.Lattice.{join_is}
use Rattle.sa_interval.proofs.interval.Interval.join.Goals as goal

pub invariant_of-result : goal.invariant_of-result
invariant_of-result c = record {
  ordered = omega (arith, ints, clamps);
  low = omega (arith, ints, clamps);
  high = omega (arith, ints, clamps);
}

pub returns-clause-least : goal.returns-clause-least
returns-clause-least c =
    let lo : to_z w128 (of_z w128 c.min.result) ≡ int_min c.self.inside.lo c.o.inside.lo = omega (arith, ints, clamps) in
    let hi : to_z w128 (of_z w128 c.max.result) ≡ int_max c.self.inside.hi c.o.inside.hi = omega (arith, ints, clamps) in
    rw (lo, hi, ← c.self.view_is, ← c.o.view_is) (join_is _ _)
