-- Remainders lie in their row.
use Rattle.std.proofs.Common.{◌≡◌, ◌≢◌, ℤ, pos, neg_ℤ, ◌≤ℤ◌, int_rem, true, false, cond, arith, refl}
use Rattle.std.specs.Int.{int_max, int_min}
use Rattle.std.specs.Int.RustNames.{int_le}
use Rattle.std.proofs.lemmas.Int.{ints, clamps, by_lt_z}
use Rattle.sa_interval.specs.Span.{Span, Within, IsBound, IsInterval, Holds, cut}
use Rattle.sa_interval.specs.Rows.{Remainders, single, are_single, is_zero, largest_remainder, remainders_up_to, remainders_of}
use Rattle.sa_numbers.proofs.Order.{le_to, above_to}
use Rattle.sa_interval.proofs.Least.{are_points}
use Rattle.sa_numbers.proofs.Cut.{cut-inside}
use Rattle.sa_numbers.proofs.Remainders.{remainder_of_above, remainder_of_below, remainder-size}

-- the low and the high bound without cases
pub low_is : (z most : ℤ) → pos 0 ≤ℤ most → int_max (int_min z (pos 0)) (neg_ℤ most) ≡ cond (int_le (pos 0) z) (pos 0) (int_max z (neg_ℤ most))
low_is z most h =
    by_lt_z z (pos 0)
    (λ down. rw (above_to (pos 0) z down) (omega (arith, ints, clamps)))
    (λ rest. rw (le_to (pos 0) z rest) (omega (arith, ints, clamps)))

pub high_is : (z most : ℤ) → pos 0 ≤ℤ most → int_min (int_max z (pos 0)) most ≡ cond (int_le z (pos 0)) (pos 0) (int_min z most)
high_is z most h =
    by_lt_z (pos 0) z
    (λ up. rw (above_to z (pos 0) up) (omega (arith, ints, clamps)))
    (λ rest. rw (le_to z (pos 0) rest) (omega (arith, ints, clamps)))

pub largest_not_below : (b : Span) → b.lo ≤ℤ b.hi → b ≢ single (pos 0) → pos 0 ≤ℤ largest_remainder b
largest_not_below b order nonzero =
    by_lt_z (largest_remainder b) (pos 0)
    (λ down.
    let lo : b.lo ≡ pos 0 = omega (arith, ints, clamps) in
    let hi : b.hi ≡ pos 0 = omega (arith, ints, clamps) in
    absurd (nonzero (λ i. record { lo = lo i; hi = hi i })))
    (λ rest. rest)

-- a remainder is no greater in size than its dividend
range : (x y : ℤ) → (int_min x (pos 0) ≤ℤ int_rem x y) × (int_rem x y ≤ℤ int_max x (pos 0))
range x y =
    by_lt_z x (pos 0)
    (λ down. let r = remainder_of_below x y (omega (arith, ints)) in (omega (arith, ints, clamps, r.0), omega (arith, ints, clamps, r.1)))
    (λ rest. let r = remainder_of_above x y rest in (omega (arith, ints, clamps, r.0), omega (arith, ints, clamps, r.1)))

pub small : (a : Span) (x y : ℤ) → IsInterval a → Within a x → IsBound (int_rem x y)
small a x y i w =
    let r = range x y in
    record { low = omega (arith, ints, clamps, r.0, i.low, w.above); high = omega (arith, ints, clamps, r.1, i.high, w.below) }

up_to_holds : (a b : Span) → IsInterval a → pos 0 ≤ℤ largest_remainder b → Holds (Remainders a b) (remainders_up_to (largest_remainder b) a)
up_to_holds a b i most z (x, y, in_a, in_b, nonzero, is) =
    let m : ℤ = largest_remainder b in
    let size = remainder-size x y m nonzero (omega (arith, ints, clamps, in_b.below)) (omega (arith, ints, clamps, in_b.above)) in
    let r = range x y in
    let bound = small a x y i in_a in
    let keeps : cut z ≡ int_rem x y = rw is (cut-inside (int_rem x y) bound.low bound.high) in
    rw (keeps, ← low_is a.lo m most, ← high_is a.hi m most) (record {
      above = omega (arith, ints, clamps, size.0, r.0, in_a.above);
      below = omega (arith, ints, clamps, size.1, r.1, in_a.below);
    })

single_holds : (a b : Span) → IsInterval a → are_single a b ≡ true → Holds (Remainders a b) (single (int_rem a.lo b.lo))
single_holds a b i points z (x, y, in_a, in_b, nonzero, is) =
    let bound = small a x y i in_a in
    let keeps : cut z ≡ int_rem x y = rw is (cut-inside (int_rem x y) bound.low bound.high) in
    let same = are_points a b x y points in_a in_b in
    rw (keeps, same.0, same.1) (record { above = omega (arith, ints); below = omega (arith, ints) })

pub remainders_hold : (a b : Span) → IsInterval a → b.lo ≤ℤ b.hi → b ≢ single (pos 0) → Holds (Remainders a b) (remainders_of a b)
remainders_hold a b i order nonzero =
    let up_to = remainders_up_to (largest_remainder b) a in
    elim (are_single a b) as (λ p. are_single a b ≡ p → Holds (Remainders a b) (cond p (single (int_rem a.lo b.lo)) up_to)) [
      | true ↦ λ points. single_holds a b i points
      | false ↦ λ _. up_to_holds a b i (largest_not_below b order nonzero)
    ] refl

pub up_to_is_interval : (a : Span) (most : ℤ) → IsInterval a → pos 0 ≤ℤ most → IsInterval (record { lo = int_max (int_min a.lo (pos 0)) (neg_ℤ most); hi = int_min (int_max a.hi (pos 0)) most })
up_to_is_interval a most i h =
    let order = i.ordered in
    let low = i.low in
    let high = i.high in
    record { ordered = omega (arith, ints, clamps); low = omega (arith, ints, clamps); high = omega (arith, ints, clamps) }

pub nonzero_from : (b : Span) → is_zero b ≡ false → b ≢ single (pos 0)
nonzero_from b f e = let zero : is_zero (single (pos 0)) ≡ false = rw e at f in cc
