use Rattle.std.proofs.Common.{◌≡◌, ◌∙◌, ◌-◌, ◌^◌, ◌<◌, ℤ, pos, ◌-ℤ◌, ◌≤ℤ◌, ◌<ℤ◌, unsigned_abs, to_z, of_z, refl, ap, arith}
use mir.Syntax.{w128}
use Rattle.std.specs.Int.{leading_zeros}
use Rattle.std.proofs.lemmas.Int.{ints}
use Rattle.std.proofs.lemmas.Nat.{pow_pos}
use Rattle.sa_numbers.specs.Masks.{least_mask}
use Rattle.sa_numbers.proofs.Masks.{bits_of, digits_small, least_mask_small, least_mask_is}
use Rattle.sa_interval.proofs.BitOps.{magnitude}
use Rattle.sa_interval.proofs.interval.bits.least_mask.Goals as goal

small : (m : ℤ) → pos 0 ≤ℤ m → m <ℤ pos (2 ^ 64) → unsigned_abs m < 2 ^ 64
small m low high = let is = magnitude m low in omega (arith, ints)

pub power-requires : goal.power-requires
power-requires c =
    let zeros = c.leading_zeros.ensures ∙ ap (leading_zeros w128) (bits_of c.args.m c.ranges.m c.requires.low) in
    rw zeros (digits_small (unsigned_abs c.args.m) 64 (omega arith) (small c.args.m c.requires.low c.requires.high))

pub returns-clause-row : goal.returns-clause-row
unfolding least_mask
returns-clause-row c =
    let zeros = c.leading_zeros.ensures ∙ ap (leading_zeros w128) (bits_of c.args.m c.ranges.m c.requires.low) in
    let some = pow_pos (128 - c.leading_zeros.result) in
    let is : to_z w128 (of_z w128 (to_z w128 (of_z w128 c.power.result) -ℤ pos 1)) ≡ pos (2 ^ (128 - c.leading_zeros.result) - 1) = omega (arith, ints) in
    is ∙ rw zeros refl

pub returns-clause-law : goal.returns-clause-law
returns-clause-law c =
    rw (returns-clause-row c) (least_mask_is (unsigned_abs c.args.m) (let h = small c.args.m c.requires.low c.requires.high in omega arith))

pub returns-clause-above : goal.returns-clause-above
returns-clause-above c =
    let m = small c.args.m c.requires.low c.requires.high in
    let law = (least_mask_is (unsigned_abs c.args.m) (omega arith)).holds in
    rw (returns-clause-row c) (omega (arith, ints, magnitude c.args.m c.requires.low))

pub returns-clause-below : goal.returns-clause-below
returns-clause-below c =
    let m = least_mask_small (unsigned_abs c.args.m) 64 (omega arith) (small c.args.m c.requires.low c.requires.high) in
    rw (returns-clause-row c) (omega (arith, ints))
