use Rattle.std.proofs.Common.{◌≡◌, ◌∙◌, to_z, of_z, refl}
use mir.Syntax.{w128}
use Rattle.std.proofs.lemmas.Int.{to_z-of_z}
use Rattle.sa_interval.proofs.Hulls.{hull_is_interval}
use Rattle.sa_numbers.specs.Corners.{least_of_four, greatest_of_four}
use Rattle.sa_interval.proofs.interval.arithmetic.hull.Goals as goal

lo_is : (c : goal.After-max-3) → to_z w128 (of_z w128 c.min-3.result) ≡ least_of_four c.args.p c.args.q c.args.r c.args.s
unfolding least_of_four
lo_is c =
    let first = to_z-of_z w128 c.min.result (record { sfits = c.min.type_inv }) ∙ c.min.ensures.value in
    let second = to_z-of_z w128 c.min-2.result (record { sfits = c.min-2.type_inv }) ∙ c.min-2.ensures.value in
    to_z-of_z w128 c.min-3.result (record { sfits = c.min-3.type_inv }) ∙ c.min-3.ensures.value
    ∙ rw (first, second, to_z-of_z w128 c.args.p c.ranges.p, to_z-of_z w128 c.args.q c.ranges.q, to_z-of_z w128 c.args.r c.ranges.r, to_z-of_z w128 c.args.s c.ranges.s) refl

hi_is : (c : goal.After-max-3) → to_z w128 (of_z w128 c.max-3.result) ≡ greatest_of_four c.args.p c.args.q c.args.r c.args.s
unfolding greatest_of_four
hi_is c =
    let first = to_z-of_z w128 c.max.result (record { sfits = c.max.type_inv }) ∙ c.max.ensures.value in
    let second = to_z-of_z w128 c.max-2.result (record { sfits = c.max-2.type_inv }) ∙ c.max-2.ensures.value in
    to_z-of_z w128 c.max-3.result (record { sfits = c.max-3.type_inv }) ∙ c.max-3.ensures.value
    ∙ rw (first, second, to_z-of_z w128 c.args.p c.ranges.p, to_z-of_z w128 c.args.q c.ranges.q, to_z-of_z w128 c.args.r c.ranges.r, to_z-of_z w128 c.args.s c.ranges.s) refl

pub invariant_of-result : goal.invariant_of-result
invariant_of-result c = rw (lo_is c, hi_is c) (hull_is_interval _ _ _ _ c.requires.p c.requires.q c.requires.r c.requires.s)

pub returns : goal.returns
returns c = rw (lo_is c, hi_is c) refl
