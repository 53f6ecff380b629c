use Rattle.std.proofs.Common.{◌≡◌, ◌∙◌, to_z, of_z, refl, sym, arith}
use mir.Syntax.{w128}
use Rattle.std.specs.Int.{int_bit_or, int_max}
use Rattle.std.proofs.lemmas.Int.{ints, clamps, to_z-of_z}
use Rattle.sa_interval.proofs.BitOps.{or_keeps, ends_bound, first_high_up, or_row_is_interval, or_row_both}
use Rattle.sa_interval.proofs.TypeRanges.{part_small}
use Rattle.sa_interval.proofs.interval.Interval.or_row.Goals as goal

pub single-requires-clause-low : goal.single-requires-clause-low
single-requires-clause-low c =
    (ends_bound (int_bit_or w128) or_keeps _ _ c.args.full c.requires.full (rw (← c.self.view_is) at c.requires.first) (rw (← c.o.view_is) at c.requires.second) c.self.invariant.ordered c.o.invariant.ordered).low

pub single-requires-clause-high : goal.single-requires-clause-high
single-requires-clause-high c =
    (ends_bound (int_bit_or w128) or_keeps _ _ c.args.full c.requires.full (rw (← c.self.view_is) at c.requires.first) (rw (← c.o.view_is) at c.requires.second) c.self.invariant.ordered c.o.invariant.ordered).high

pub mask_of_highs-requires : goal.mask_of_highs-requires
mask_of_highs-requires c =
    let first = (part_small c.args.self c.args.full c.requires.full c.requires.first).1 in
    let second = (part_small c.args.o c.args.full c.requires.full c.requires.second).1 in
    let may = c.if-are_not_negative.ensures in
    record {
      low = first_high_up c.args.self c.args.o may.value may.first.ordered;
      first = omega (arith, ints, first);
      second = omega (arith, ints, second);
    }

-- the greater low
low_is : (c : goal.After-mask_of_highs) → to_z w128 (of_z w128 c.max.result) ≡ int_max c.args.self.lo c.args.o.lo
low_is c =
    let is : to_z w128 (of_z w128 c.max.result) ≡ int_max c.self-then-are_not_negative.inside.lo c.o-then-are_not_negative.inside.lo = omega (arith, ints, clamps) in
    is ∙ rw (← c.self-then-are_not_negative.view_is, ← c.o-then-are_not_negative.view_is) refl

high_is : (c : goal.After-mask_of_highs) → to_z w128 (of_z w128 c.mask_of_highs.result) ≡ c.mask_of_highs.result
high_is c = to_z-of_z w128 c.mask_of_highs.result (record { sfits = c.mask_of_highs.type_inv })

pub invariant_of-result : goal.invariant_of-result
invariant_of-result c =
    let may = c.if-are_not_negative.ensures in
    let mask = c.mask_of_highs.ensures in
    rw (low_is c, high_is c) (or_row_is_interval c.args.self c.args.o c.mask_of_highs.result may.value may.first.ordered may.second.ordered mask.above.0 mask.above.1 mask.below)

pub returns-then-are_not_negative : goal.returns-then-are_not_negative
returns-then-are_not_negative c =
    let row = or_row_both c.args.self c.args.o c.args.full (sym c.are_single.ensures ∙ c.if-are_single.false) c.if-are_not_negative.ensures.value in
    rw (low_is c, high_is c, c.mask_of_highs.ensures.row, row) refl
