use Rattle.std.proofs.Common.{◌≡◌, pos, neg_ℤ, to_z, of_z, refl, arith}
use mir.Syntax.{w128}
use Rattle.std.specs.Int.{int_max, int_min}
use Rattle.std.proofs.lemmas.Int.{ints, clamps}
use Rattle.sa_interval.proofs.Remainders.{low_is, high_is}
use Rattle.sa_interval.proofs.interval.Interval.remainders_up_to.Goals as goal

pub invariant_of-result : goal.invariant_of-result
invariant_of-result c = record {
  ordered = omega (arith, ints, clamps);
  low = omega (arith, ints, clamps);
  high = omega (arith, ints, clamps);
}

pub returns : goal.returns
returns c =
    let lo : to_z w128 (of_z w128 c.max.result) ≡ int_max (int_min c.self.inside.lo (pos 0)) (neg_ℤ c.args.most) = omega (arith, ints, clamps) in
    let hi : to_z w128 (of_z w128 c.min-2.result) ≡ int_min (int_max c.self.inside.hi (pos 0)) c.args.most = omega (arith, ints, clamps) in
    rw (lo, hi, low_is _ _ c.requires, high_is _ _ c.requires, ← c.self.view_is) refl
