-- Sums and differences are least.
use Rattle.std.proofs.Common.{ℤ, ◌≤ℤ◌, ◌+ℤ◌, ◌-ℤ◌, arith, refl}
use Rattle.std.proofs.lemmas.Int.{ints}
use Rattle.sa_interval.specs.Span.{Span, IsLeast}
use Rattle.sa_interval.specs.Rows.{Sums, Differences, sum_of, difference_of}
use Rattle.sa_interval.proofs.Least.{least_between, within_lo, within_hi}

sum_between : (a b : Span) (z : ℤ) → Sums a b z → ((a.lo +ℤ b.lo) ≤ℤ z) × (z ≤ℤ (a.hi +ℤ b.hi))
sum_between a b z s =
    let xl = s.2.above in
    let xh = s.2.below in
    let yl = s.3.above in
    let yh = s.3.below in
    let e = s.4 in
    (omega (arith, ints), omega (arith, ints))

pub least_sum : (a b : Span) → a.lo ≤ℤ a.hi → b.lo ≤ℤ b.hi → IsLeast (Sums a b) (sum_of a b)
least_sum a b p q =
    least_between (Sums a b) (a.lo +ℤ b.lo) (a.hi +ℤ b.hi)
    (a.lo, b.lo, within_lo a p, within_lo b q, refl)
    (a.hi, b.hi, within_hi a p, within_hi b q, refl)
    (sum_between a b)

difference_between : (a b : Span) (z : ℤ) → Differences a b z → ((a.lo -ℤ b.hi) ≤ℤ z) × (z ≤ℤ (a.hi -ℤ b.lo))
difference_between a b z s =
    let xl = s.2.above in
    let xh = s.2.below in
    let yl = s.3.above in
    let yh = s.3.below in
    let e = s.4 in
    (omega (arith, ints), omega (arith, ints))

pub least_difference : (a b : Span) → a.lo ≤ℤ a.hi → b.lo ≤ℤ b.hi → IsLeast (Differences a b) (difference_of a b)
least_difference a b p q =
    least_between (Differences a b) (a.lo -ℤ b.hi) (a.hi -ℤ b.lo)
    (a.lo, b.hi, within_lo a p, within_hi b q, refl)
    (a.hi, b.lo, within_hi a p, within_lo b q, refl)
    (difference_between a b)
