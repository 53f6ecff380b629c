-- Joins and meets.
use Rattle.std.proofs.Common.{◌<ℤ◌, arith}
use Rattle.std.specs.Int.{int_max, int_min}
use Rattle.std.proofs.lemmas.Int.{ints, clamps}
use Rattle.sa_interval.specs.Span.{Span, IsJoin, IsMeet, AreDisjoint}
use Rattle.sa_interval.specs.Rows.{join_of}

pub join_is : (a b : Span) → IsJoin a b (join_of a b)
join_is a b = record {
  first = record { above = omega (arith, ints, clamps); below = omega (arith, ints, clamps) };
  second = record { above = omega (arith, ints, clamps); below = omega (arith, ints, clamps) };
  least = λ t p q. record { above = omega (arith, ints, clamps, p.above, q.above); below = omega (arith, ints, clamps, p.below, q.below) };
}

pub meet_is : (a b : Span) → IsMeet a b (record { lo = int_max a.lo b.lo; hi = int_min a.hi b.hi })
meet_is a b = record {
  first = record { above = omega (arith, ints, clamps); below = omega (arith, ints, clamps) };
  second = record { above = omega (arith, ints, clamps); below = omega (arith, ints, clamps) };
  holds = λ z p q. record { above = omega (arith, ints, clamps, p.above, q.above); below = omega (arith, ints, clamps, p.below, q.below) };
}

pub disjoint_is : (a b : Span) → int_min a.hi b.hi <ℤ int_max a.lo b.lo → AreDisjoint a b
disjoint_is a b h z p q = absurd (omega (arith, ints, clamps, p.above, p.below, q.above, q.below))
