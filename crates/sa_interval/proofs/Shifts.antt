-- Shifts are least.
use Rattle.std.proofs.Common.{◌≡◌, ℕ, ◌^◌, ◌≤◌, ℤ, pos, negsuc, ◌≤ℤ◌, ◌*ℤ◌, unsigned_abs, arith, refl}
use Rattle.std.proofs.Math.IntN.{*ℤ_comm}
use Rattle.std.proofs.lemmas.Int.{ints}
use Rattle.sa_interval.specs.Span.{Span, Within, IsPart, IsInterval, IsLeast}
use Rattle.sa_interval.specs.BitRows.{LeftShifts, RightShifts, left_shift_of, right_shift_of}
use Rattle.sa_interval.proofs.Hulls.{least_hull_inside}
use Rattle.sa_interval.proofs.Least.{least_between, interval_between, within_lo, within_hi}
use Rattle.sa_numbers.proofs.Order.{≤ℤ_trans}
use Rattle.sa_numbers.proofs.Products.{times_up}
use Rattle.sa_numbers.proofs.Shifts.{powers_rise, shift-corners, shift-size}

abbrev counts_range : Span
counts_range = record { lo = pos 0; hi = pos 63 }

-- a bound of counts as a number
count_is : (k : ℤ) → pos 0 ≤ℤ k → pos (unsigned_abs k) ≡ k
count_is (pos n) h = refl
count_is (negsuc n) h = absurd (omega (arith, ints))

least_count : (counts : Span) → counts.lo ≤ℤ counts.hi → IsPart counts counts_range → Within counts (pos (unsigned_abs counts.lo))
least_count counts order part = rw (count_is counts.lo part.above) (within_lo counts order)

most_count : (counts : Span) → counts.lo ≤ℤ counts.hi → IsPart counts counts_range → Within counts (pos (unsigned_abs counts.hi))
most_count counts order part = rw (count_is counts.hi (≤ℤ_trans (pos 0) counts.lo counts.hi part.above order)) (within_hi counts order)

-- a count between the bounds as a number
count_between : (counts : Span) (n : ℕ) → IsPart counts counts_range → counts.lo ≤ℤ counts.hi → Within counts (pos n) → (unsigned_abs counts.lo ≤ n) × (n ≤ unsigned_abs counts.hi)
count_between counts n part order w =
    let lo = count_is counts.lo part.above in
    let hi = count_is counts.hi (≤ℤ_trans (pos 0) counts.lo counts.hi part.above order) in
    (omega (arith, ints, lo, w.above), omega (arith, ints, hi, w.below))

-- a shift to the left rises with the number and with the count
left_rises : (x y : ℤ) (j k : ℕ) → pos 0 ≤ℤ x → x ≤ℤ y → j ≤ k → (x *ℤ pos (2 ^ j)) ≤ℤ (y *ℤ pos (2 ^ k))
left_rises x y j k h p q =
    let first = times_up x y (pos (2 ^ j)) (omega (arith, ints)) p in
    let rise = powers_rise j k q in
    let second = times_up (pos (2 ^ j)) (pos (2 ^ k)) y (omega (arith, ints)) (omega (arith, ints)) in
    ≤ℤ_trans _ _ _ first (rw (*ℤ_comm y (pos (2 ^ j)), *ℤ_comm y (pos (2 ^ k))) second)

pub left_shift_is_interval : (a counts : Span) → IsInterval a → pos 0 ≤ℤ a.lo → counts.lo ≤ℤ counts.hi → IsPart counts counts_range → IsInterval (left_shift_of a counts)
left_shift_is_interval a counts i up order part =
    let between = count_between counts (unsigned_abs counts.hi) part order (most_count counts order part) in
    interval_between _ _ (left_rises a.lo a.hi (unsigned_abs counts.lo) (unsigned_abs counts.hi) up i.ordered between.0)

pub least_left_shift : (a counts : Span) → IsInterval a → pos 0 ≤ℤ a.lo → counts.lo ≤ℤ counts.hi → IsPart counts counts_range → IsLeast (LeftShifts a counts) (left_shift_of a counts)
least_left_shift a counts i up order part =
    least_between (LeftShifts a counts) _ _
    (a.lo, unsigned_abs counts.lo, within_lo a i.ordered, least_count counts order part, refl)
    (a.hi, unsigned_abs counts.hi, within_hi a i.ordered, most_count counts order part, refl)
    (λ z (x, n, in_a, in_counts, is).
    let between = count_between counts n part order in_counts in
    rw is (left_rises a.lo x (unsigned_abs counts.lo) n up in_a.above between.0, left_rises x a.hi n (unsigned_abs counts.hi) (≤ℤ_trans (pos 0) a.lo x up in_a.above) in_a.below between.1))

pub least_right_shift : (a counts : Span) → IsInterval a → counts.lo ≤ℤ counts.hi → IsPart counts counts_range → IsLeast (RightShifts a counts) (right_shift_of a counts)
least_right_shift a counts i order part =
    let al = within_lo a i.ordered in
    let ah = within_hi a i.ordered in
    let cl = least_count counts order part in
    let ch = most_count counts order part in
    least_hull_inside (RightShifts a counts) _ _ _ _
    (a.lo, unsigned_abs counts.lo, al, cl, refl)
    (a.lo, unsigned_abs counts.hi, al, ch, refl)
    (a.hi, unsigned_abs counts.lo, ah, cl, refl)
    (a.hi, unsigned_abs counts.hi, ah, ch, refl)
    (λ z (x, n, in_a, in_counts, is).
    let size = shift-size x n (2 ^ 100) (omega (arith, ints, i.low, in_a.above)) (omega (arith, ints, i.high, in_a.below)) in
    rw is (record { low = size.0; high = size.1 }))
    (λ z (x, n, in_a, in_counts, is).
    let between = count_between counts n part order in_counts in
    rw is (shift-corners a.lo a.hi x (unsigned_abs counts.lo) (unsigned_abs counts.hi) n in_a.above in_a.below between.0 between.1))
