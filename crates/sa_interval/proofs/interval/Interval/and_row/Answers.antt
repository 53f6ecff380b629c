use Rattle.std.proofs.Common.{◌≡◌, ◌∙◌, to_z, of_z, refl, sym, arith}
use mir.Syntax.{w128}
use Rattle.std.specs.Int.{int_bit_and, int_min}
use Rattle.std.proofs.lemmas.Int.{ints, clamps}
use Rattle.sa_interval.proofs.BitOps.{and_keeps, ends_bound, high_up, and_row_both}
use Rattle.sa_interval.proofs.interval.Interval.and_row.Goals as goal

pub single-requires-clause-low : goal.single-requires-clause-low
single-requires-clause-low c =
    (ends_bound (int_bit_and w128) and_keeps _ _ c.args.full c.requires.full (rw (← c.self.view_is) at c.requires.first) (rw (← c.o.view_is) at c.requires.second) c.self.invariant.ordered c.o.invariant.ordered).low

pub single-requires-clause-high : goal.single-requires-clause-high
single-requires-clause-high c =
    (ends_bound (int_bit_and w128) and_keeps _ _ c.args.full c.requires.full (rw (← c.self.view_is) at c.requires.first) (rw (← c.o.view_is) at c.requires.second) c.self.invariant.ordered c.o.invariant.ordered).high

pub invariant_of-result : goal.invariant_of-result
invariant_of-result c =
    let first = rw (← c.self-2.view_is) at (high_up c.args.self c.in-true-true.ensures.value c.in-true-true.ensures.whole.ordered) in
    let second = rw (← c.o-2.view_is) at (high_up c.args.o c.in-true-true.ensures'.value c.in-true-true.ensures'.whole.ordered) in
    record {
      ordered = omega (arith, ints, clamps, first, second);
      low = omega (arith, ints);
      high = omega (arith, ints, clamps);
    }

pub from_zero-requires-clause-low : goal.from_zero-requires-clause-low
from_zero-requires-clause-low c =
    let first = rw (← c.self-2.view_is) at (high_up c.args.self c.in-true-false.ensures.value c.in-true-false.ensures.whole.ordered) in
    omega (arith, ints, first)

pub returns-in-true-true : goal.returns-in-true-true
returns-in-true-true c =
    let hi : to_z w128 (of_z w128 c.min.result) ≡ int_min c.self-2.inside.hi c.o-2.inside.hi = omega (arith, ints, clamps) in
    rw (hi, and_row_both c.args.self c.args.o c.args.full (sym c.are_single.ensures ∙ c.if-are_single.false) c.in-true-true.ensures.value c.in-true-true.ensures'.value, ← c.self-2.view_is, ← c.o-2.view_is) refl
