-- Spans of operators stay in their types.
use Rattle.std.proofs.Common.{◌≡◌, ◌≢◌, ℕ, ◌^◌, ◌-◌, ◌≤◌, ◌<◌, ℤ, pos, negsuc, neg_ℤ, ◌≤ℤ◌, ◌<ℤ◌, ◌+ℤ◌, ◌-ℤ◌, ◌*ℤ◌, int_rem, unsigned_abs, Bool, true, false, ◌&&◌, ◌||◌, not, cond, inl, inr, Option, Some, None, IfSome, arith, refl, sym, ap}
use Rattle.std.specs.Int.{w128, int_max, int_min, int_shr, int_bit_and, int_bit_or, int_bit_xor}
use Rattle.std.specs.Int.RustNames.{int_le, int_lt}
use Rattle.std.specs.Ordering.{int_eq}
use Rattle.std.proofs.lemmas.Int.{ints, clamps, by_lt_z}
use Rattle.sa_base.specs.Numbers.{num_lo, num_hi}
use Rattle.sa_base.specs.declared.num.Num.{Num}
use Rattle.sa_base.specs.declared.num.Num.TheVariants.{I8, U8, I16, U16, I32, U32, I64, U64}
use Rattle.sa_interval.specs.Span.{Span, Within, IsPart, IsInterval, IsLeast, Holds, cut}
use Rattle.sa_interval.specs.Rows.{single, are_single, is_zero, is_part, meet_of, sum_of, difference_of, product_of, quotient_of, remainder_of, remainders_of, remainders_up_to, largest_remainder, Quotients}
use Rattle.sa_interval.specs.BitRows.{left_shift_of, right_shift_of, and_of, or_of, xor_of, complement_of, not_negative, mask_of_highs, RightShifts, wrap_of}
use Rattle.sa_interval.proofs.Least.{both_true, within_lo, within_hi}
use Rattle.sa_interval.proofs.Sums.{least_sum, least_difference}
use Rattle.sa_interval.proofs.Products.{least_product}
use Rattle.sa_interval.proofs.Quotients.{least_quotient}
use Rattle.sa_interval.proofs.Remainders.{nonzero_from, low_is, high_is, largest_not_below, up_to_is_interval}
use Rattle.sa_interval.proofs.Shifts.{least_right_shift, left_shift_is_interval}
use Rattle.sa_interval.proofs.BitOps.{and_keeps, or_keeps, xor_keeps, mask_holds, magnitude}
use Rattle.sa_interval.proofs.TypeRanges.{KeepsBits, type_keeps}
use Rattle.sa_numbers.specs.Masks.{least_mask}
use Rattle.sa_numbers.proofs.Masks.{least_mask_small}
use Rattle.sa_numbers.proofs.Order.{le_from, ≤ℤ_trans}
use Rattle.sa_numbers.proofs.Remainders.{remainder_of_above, remainder_of_below}
use Rattle.std.proofs.Math.Nat.{div-le_self}
use Rattle.std.proofs.lemmas.Nat.{pow_pos}
use Rattle.sa_typed.specs.Arithmetic.{bits, is_signed, IsOf, promoted, common, result_type, prefix_type}
use Rattle.sa_typed.specs.declared.expr.Operator.{Operator}
use Rattle.sa_typed.specs.declared.expr.Operator.TheVariants as o
use Rattle.sa_typed.specs.declared.expr.Prefix.{Prefix}
use Rattle.sa_typed.specs.declared.expr.Prefix.TheVariants as p
use Rattle.sa_typed.proofs.ArithmeticLaws.{num_facts, remainder_of_type, shifted_of_type}
use Rattle.sa_operators.specs.Operators.{range_of, IsIn, then_span, as_span, fitted_span, quotient_span, counts, shiftable, left_shifts, left_shift_span, right_shift_span, truth_span, negated_span, operator_span, prefix_span}
use Rattle.sa_operators.specs.OperatorLaws.{IsSmallSpan, Suits, OwnTypeSuits, UnsignedSuits, PromotedSuits, CommonSuits, OperatorsStay, PrefixesStay}
use Rattle.sa_operators.proofs.FitLaws.{unsigned_is, type_range, is_part_from, within_part, small_interval, in_small, operands_stay, of_cut, fit_stays, wrap_stays}
use Rattle.sa_operators.proofs.OperatorCovers.{IsCounts, counts_stay, IsShiftable, shiftable_stays, if_some}

-- an operand converted to the type in which its operator works
pub record IsAt (num : Num) (a : Span) : Type 0 where
  pub whole : IsInterval a
  pub part : IsPart a (range_of num)

is_at : (num : Num) (s : Span) → Suits num s → IsAt num (as_span num s)
is_at num s h = record { whole = small_interval (as_span num s) (in_small num (as_span num s) (operands_stay num s h)); part = h.converts }

-- a least span of some results isn't empty
least_ordered : (R : ℤ → Type 0) (s : Span) (z : ℤ) → IsLeast R s → R z → s.lo ≤ℤ s.hi
least_ordered R s z l r = let w = l.holds z r in ≤ℤ_trans _ _ _ w.above w.below

sum_ordered : (a b : Span) → IsInterval a → IsInterval b → (sum_of a b).lo ≤ℤ (sum_of a b).hi
sum_ordered a b i j = least_ordered _ _ (a.lo +ℤ b.lo) (least_sum a b i.ordered j.ordered) (a.lo, b.lo, within_lo a i.ordered, within_lo b j.ordered, refl)

difference_ordered : (a b : Span) → a.lo ≤ℤ a.hi → b.lo ≤ℤ b.hi → (difference_of a b).lo ≤ℤ (difference_of a b).hi
difference_ordered a b i j = least_ordered _ _ (a.lo -ℤ b.lo) (least_difference a b i j) (a.lo, b.lo, within_lo a i, within_lo b j, refl)

product_ordered : (a b : Span) → IsInterval a → IsInterval b → (product_of a b).lo ≤ℤ (product_of a b).hi
product_ordered a b i j = least_ordered _ _ (a.lo *ℤ b.lo) (least_product a b i.ordered j.ordered) (a.lo, b.lo, within_lo a i.ordered, within_lo b j.ordered, refl)

-- ---- `/`

eq_from : (x y : ℤ) → int_eq x y ≡ true → x ≡ y
eq_from x y e = grind (arith, ints)

eq_not : (x y : ℤ) → int_eq x y ≡ false → x ≢ y
eq_not x y e = grind (arith, ints)

no_quotient : (a b : Span) → b.lo ≡ pos 0 → b.hi ≡ pos 0 → quotient_of a b ≡ None
no_quotient a b lo hi = rw (lo, hi) refl

fits_by : (num : Num) (a b : Span) (y : ℤ) (o : Option Span) → a.lo ≤ℤ a.hi → Within b y → y ≢ pos 0 → IfSome o (λ q. IsLeast (Quotients a b) q) → IfSome (then_span o (fitted_span num)) (λ s. IsIn num s)
fits_by num a b y None order w nonzero h = tt
fits_by num a b y (Some q) order w nonzero h = fit_stays num q (least_ordered _ _ _ h (a.lo, y, within_lo a order, w, nonzero, refl))

quotients_stay : (num : Num) (a b : Span) → IsInterval a → IsInterval b → IfSome (quotient_span num a b) (λ s. IsIn num s)
unfolding quotient_span
quotients_stay num a b i j =
    let least = least_quotient a b i j in
    elim (int_eq b.lo (pos 0)) as (λ t. int_eq b.lo (pos 0) ≡ t → IfSome (then_span (quotient_of a b) (fitted_span num)) (λ s. IsIn num s)) [
      | true ↦ λ lo. elim (int_eq b.hi (pos 0)) as (λ t. int_eq b.hi (pos 0) ≡ t → IfSome (then_span (quotient_of a b) (fitted_span num)) (λ s. IsIn num s)) [
        | true ↦ λ hi. rw (no_quotient a b (eq_from b.lo (pos 0) lo) (eq_from b.hi (pos 0) hi)) tt
        | false ↦ λ hi. fits_by num a b b.hi (quotient_of a b) i.ordered (within_hi b j.ordered) (eq_not b.hi (pos 0) hi) least
      ] refl
      | false ↦ λ lo. fits_by num a b b.lo (quotient_of a b) i.ordered (within_lo b j.ordered) (eq_not b.lo (pos 0) lo) least
    ] refl

-- ---- `%`

single_in : (num : Num) (z : ℤ) → IsOf num z → IsIn num (single z)
single_in num z h = record { ordered = omega (arith, ints); part = record { above = h.low; below = h.high } }

up_to_in : (num : Num) (a : Span) (most : ℤ) → IsAt num a → pos 0 ≤ℤ most → IsIn num (remainders_up_to most a)
up_to_in num a most at up =
    let facts = num_facts num in
    let whole = up_to_is_interval a most at.whole up in
    rw (← low_is a.lo most up, ← high_is a.hi most up) (record {
      ordered = whole.ordered;
      part = record { above = omega (arith, ints, clamps, at.part.above, facts.not_above); below = omega (arith, ints, clamps, at.part.below, facts.not_below) };
    })

remainders_in : (num : Num) (a b : Span) → IsAt num a → IsInterval b → is_zero b ≡ false → IsIn num (remainders_of a b)
remainders_in num a b at j nonzero =
    elim (are_single a b) as (λ t. IsIn num (cond t (single (int_rem a.lo b.lo)) (remainders_up_to (largest_remainder b) a))) [
      | true ↦ single_in num (int_rem a.lo b.lo) (remainder_of_type num a.lo b.lo (record { low = at.part.above; high = ≤ℤ_trans _ _ _ at.whole.ordered at.part.below }))
      | false ↦ up_to_in num a (largest_remainder b) at (largest_not_below b j.ordered (nonzero_from b nonzero))
    ]

remainders_stay : (num : Num) (a b : Span) → IsAt num a → IsInterval b → IfSome (remainder_of a b) (λ s. IsIn num s)
remainders_stay num a b at j =
    elim (is_zero b) as (λ t. is_zero b ≡ t → IfSome (cond t None (Some (remainders_of a b))) (λ s. IsIn num s)) [
      | true ↦ λ _. tt
      | false ↦ λ e. remainders_in num a b at j e
    ] refl

-- ---- shifts

left_ordered : (o c : Option Span) → IfSome o IsShiftable → IfSome c IsCounts → IfSome (then_span o (λ m. then_span c (λ c. Some (left_shift_of m c)))) (λ s. s.lo ≤ℤ s.hi)
left_ordered None c h k = tt
left_ordered (Some a) None h k = tt
left_ordered (Some a) (Some c) h k = (left_shift_is_interval a c h.whole h.up k.ordered k.part).ordered

fits_then : (num : Num) (o : Option Span) → IfSome o (λ s. s.lo ≤ℤ s.hi) → IfSome (then_span o (fitted_span num)) (λ s. IsIn num s)
fits_then num None h = tt
fits_then num (Some s) h = fit_stays num s h

left_shifts_stay : (num : Num) (a b : Span) → IsAt num a → IfSome (left_shift_span num a b) (λ s. IsIn num s)
unfolding left_shift_span left_shifts
left_shifts_stay num a b at = fits_then num _ (left_ordered (shiftable num a) (meet_of b (counts num)) (shiftable_stays num a at.whole at.part) (counts_stay num b))

right_in : (num : Num) (a c : Span) → IsAt num a → IsCounts c → IsIn num (right_shift_of a c)
right_in num a c at h =
    let least = least_right_shift a c at.whole h.ordered h.part in
    let few : pos (unsigned_abs c.lo) ≡ c.lo = magnitude c.lo h.part.above in
    record {
      ordered = least_ordered _ _ (int_shr a.lo (unsigned_abs c.lo)) least (a.lo, unsigned_abs c.lo, within_lo a at.whole.ordered, rw few (within_lo c h.ordered), refl);
      part = least.least (range_of num) (λ z (x, k, v, w, is).
          let inside = within_part a (range_of num) x at.part v in
          let of : IsOf num z = rw is (shifted_of_type num x k (record { low = inside.above; high = inside.below })) in
          rw (of_cut num z of) (record { above = of.low; below = of.high }));
    }

right_then : (num : Num) (a : Span) (o : Option Span) → IsAt num a → IfSome o IsCounts → IfSome (then_span o (λ c. Some (right_shift_of a c))) (λ s. IsIn num s)
right_then num a None at h = tt
right_then num a (Some c) at h = right_in num a c at h

right_shifts_stay : (num : Num) (a b : Span) → IsAt num a → IfSome (right_shift_span num a b) (λ s. IsIn num s)
unfolding right_shift_span
right_shifts_stay num a b at = right_then num a (meet_of b (counts num)) at (counts_stay num b)

-- ---- `&`, `|` and `^`

-- the greatest number of a type has all of its bits set
highest : (num : Num) → (k : ℕ) × (k ≤ 64) × (num_hi num ≡ pos (2 ^ k - 1))
highest I8 = (7, omega arith, refl)
highest U8 = (8, omega arith, refl)
highest I16 = (15, omega arith, refl)
highest U16 = (16, omega arith, refl)
highest I32 = (31, omega arith, refl)
highest U32 = (32, omega arith, refl)
highest I64 = (63, omega arith, refl)
highest U64 = (64, omega arith, refl)

lo_of : (num : Num) (a : Span) → IsAt num a → Within (range_of num) a.lo
lo_of num a at = record { above = at.part.above; below = ≤ℤ_trans _ _ _ at.whole.ordered at.part.below }

ends_in : (op : ℤ → ℤ → ℤ) → KeepsBits op → (num : Num) (a b : Span) → IsAt num a → IsAt num b → IsIn num (single (op a.lo b.lo))
ends_in op keeps num a b h k =
    let inside = type_keeps op keeps (range_of num) a.lo b.lo (type_range num) (lo_of num a h) (lo_of num b k) in
    single_in num (op a.lo b.lo) (record { low = inside.above; high = inside.below })

range_in : (num : Num) → IsIn num (range_of num)
range_in num =
    let facts = num_facts num in
    record { ordered = omega (arith, ints, facts.not_above, facts.not_below); part = record { above = omega (arith, ints); below = omega (arith, ints) } }

-- from a number that isn't negative to one of the type
from_in : (num : Num) (low high : ℤ) → pos 0 ≤ℤ low → low ≤ℤ high → high ≤ℤ num_hi num → IsIn num (record { lo = low; hi = high })
from_in num low high up order h = record { ordered = order; part = record { above = ≤ℤ_trans _ _ _ (num_facts num).not_above up; below = h } }

high_up : (a : Span) → IsInterval a → pos 0 ≤ℤ a.lo → pos 0 ≤ℤ a.hi
high_up a i up = ≤ℤ_trans _ _ _ up i.ordered

zero_up : pos 0 ≤ℤ pos 0
zero_up = omega (arith, ints)

ands_in : (num : Num) (a b : Span) → IsAt num a → IsAt num b → IsIn num (and_of a b (range_of num))
ands_in num a b h k =
    elim (are_single a b) as (λ s. IsIn num (cond s (single (int_bit_and w128 a.lo b.lo)) (cond (not_negative a && not_negative b) (record { lo = pos 0; hi = int_min a.hi b.hi }) (cond (not_negative a) (record { lo = pos 0; hi = a.hi }) (cond (not_negative b) (record { lo = pos 0; hi = b.hi }) (range_of num)))))) [
      | true ↦ ends_in (int_bit_and w128) and_keeps num a b h k
      | false ↦ elim (not_negative a) as (λ u. not_negative a ≡ u → IsIn num (cond (u && not_negative b) (record { lo = pos 0; hi = int_min a.hi b.hi }) (cond u (record { lo = pos 0; hi = a.hi }) (cond (not_negative b) (record { lo = pos 0; hi = b.hi }) (range_of num))))) [
        | true ↦ λ u.
            let up = high_up a h.whole (le_from (pos 0) a.lo u) in
            elim (not_negative b) as (λ v. not_negative b ≡ v → IsIn num (cond v (record { lo = pos 0; hi = int_min a.hi b.hi }) (record { lo = pos 0; hi = a.hi }))) [
              | true ↦ λ v.
                  let also = high_up b k.whole (le_from (pos 0) b.lo v) in
                  from_in num (pos 0) (int_min a.hi b.hi) zero_up (omega (arith, ints, clamps)) (omega (arith, ints, clamps, h.part.below))
              | false ↦ λ _. from_in num (pos 0) a.hi zero_up up h.part.below
            ] refl
        | false ↦ λ _. elim (not_negative b) as (λ v. not_negative b ≡ v → IsIn num (cond v (record { lo = pos 0; hi = b.hi }) (range_of num))) [
          | true ↦ λ v. from_in num (pos 0) b.hi zero_up (high_up b k.whole (le_from (pos 0) b.lo v)) k.part.below
          | false ↦ λ _. range_in num
        ] refl
      ] refl
    ]

-- the mask of two highs of a type is of the type, and above both
mask_in : (num : Num) (a b : Span) → IsAt num a → IsAt num b → pos 0 ≤ℤ a.hi → (mask_of_highs a b ≤ℤ num_hi num) × (a.hi ≤ℤ mask_of_highs a b) × (b.hi ≤ℤ mask_of_highs a b)
mask_in num a b h k up =
    let top = highest num in
    let high : ℤ = int_max a.hi b.hi in
    let is : pos (unsigned_abs high) ≡ high = magnitude high (omega (arith, ints, clamps)) in
    let some = pow_pos top.0 in
    let below_top : high <ℤ pos (2 ^ top.0) = omega (arith, ints, clamps, rw top.2 at h.part.below, rw top.2 at k.part.below) in
    let below : unsigned_abs high < 2 ^ top.0 = omega (arith, ints, is, below_top) in
    let small = least_mask_small (unsigned_abs high) top.0 (omega (arith, top.1)) below in
    let mask = mask_holds a b (range_of num) (type_range num) h.part k.part up in (
      rw top.2 (omega (arith, ints, small)),
      rw mask.1 (omega (arith, ints, mask.3, pow_pos mask.0)),
      rw mask.1 (omega (arith, ints, mask.4, pow_pos mask.0)),
    )

-- the rows of `|` and `^`
row_in : (num : Num) (a b : Span) (exact low : ℤ) → IsAt num a → IsAt num b → IsIn num (single exact) → (pos 0 ≤ℤ a.lo → pos 0 ≤ℤ b.lo → (pos 0 ≤ℤ low) × (low ≤ℤ int_max a.hi b.hi)) →
    IsIn num (cond (are_single a b) (single exact) (cond (not_negative a && not_negative b) (record { lo = low; hi = mask_of_highs a b }) (range_of num)))
row_in num a b exact low h k ends both =
    elim (are_single a b) as (λ s. IsIn num (cond s (single exact) (cond (not_negative a && not_negative b) (record { lo = low; hi = mask_of_highs a b }) (range_of num)))) [
      | true ↦ ends
      | false ↦ elim (not_negative a) as (λ u. not_negative a ≡ u → IsIn num (cond (u && not_negative b) (record { lo = low; hi = mask_of_highs a b }) (range_of num))) [
        | true ↦ λ u. elim (not_negative b) as (λ v. not_negative b ≡ v → IsIn num (cond v (record { lo = low; hi = mask_of_highs a b }) (range_of num))) [
          | true ↦ λ v.
              let first = le_from (pos 0) a.lo u in
              let lows = both first (le_from (pos 0) b.lo v) in
              let mask = mask_in num a b h k (high_up a h.whole first) in
              from_in num low (mask_of_highs a b) lows.0 (under low a.hi b.hi (mask_of_highs a b) lows.1 mask.1 mask.2) mask.0
          | false ↦ λ _. range_in num
        ] refl
        | false ↦ λ _. range_in num
      ] refl
    ]
  where
    under : (low p q mask : ℤ) → low ≤ℤ int_max p q → p ≤ℤ mask → q ≤ℤ mask → low ≤ℤ mask
    under low p q mask x y z = omega (arith, ints, clamps)

ors_in : (num : Num) (a b : Span) → IsAt num a → IsAt num b → IsIn num (or_of a b (range_of num))
ors_in num a b h k =
    row_in num a b (int_bit_or w128 a.lo b.lo) (int_max a.lo b.lo) h k (ends_in (int_bit_or w128) or_keeps num a b h k)
    (λ first second. (omega (arith, ints, clamps), omega (arith, ints, clamps, h.whole.ordered, k.whole.ordered)))

xors_in : (num : Num) (a b : Span) → IsAt num a → IsAt num b → IsIn num (xor_of a b (range_of num))
xors_in num a b h k =
    row_in num a b (int_bit_xor w128 a.lo b.lo) (pos 0) h k (ends_in (int_bit_xor w128) xor_keeps num a b h k)
    (λ first second. (zero_up, omega (arith, ints, clamps, h.whole.ordered, first)))

-- ---- comparisons

truth_in : (always never : Bool) → IsIn I32 (truth_span always never)
truth_in true never = record { ordered = omega (arith, ints); part = record { above = omega (arith, ints); below = omega (arith, ints) } }
truth_in false true = record { ordered = omega (arith, ints); part = record { above = omega (arith, ints); below = omega (arith, ints) } }
truth_in false false = record { ordered = omega (arith, ints); part = record { above = omega (arith, ints); below = omega (arith, ints) } }

-- ---- all operators

abbrev StaysOp : Operator → Num → Span → Span → Type 0
StaysOp op num a b = IfSome (operator_span op num a b) (λ s. IsIn (result_type op num) s)

shift_left_stays : (num : Num) (a b : Span) → IsAt num (as_span num a) → StaysOp o.ShiftLeft num a b
unfolding operator_span
shift_left_stays num a b h = left_shifts_stay num (as_span num a) b h

shift_right_stays : (num : Num) (a b : Span) → IsAt num (as_span num a) → StaysOp o.ShiftRight num a b
unfolding operator_span
shift_right_stays num a b h = right_shifts_stay num (as_span num a) b h

both_stay : (op : Operator) (num : Num) (a b : Span) → IsAt num (as_span num a) → IsAt num (as_span num b) → StaysOp op num a b
unfolding operator_span
both_stay o.Plus num a b h k = fit_stays num _ (sum_ordered _ _ h.whole k.whole)
both_stay o.Minus num a b h k = fit_stays num _ (difference_ordered _ _ h.whole.ordered k.whole.ordered)
both_stay o.Times num a b h k = fit_stays num _ (product_ordered _ _ h.whole k.whole)
both_stay o.Divide num a b h k = quotients_stay num _ _ h.whole k.whole
both_stay o.Remainder num a b h k = remainders_stay num _ _ h k.whole
both_stay o.ShiftLeft num a b h k = shift_left_stays num a b h
both_stay o.ShiftRight num a b h k = shift_right_stays num a b h
both_stay o.BitAnd num a b h k = ands_in num _ _ h k
both_stay o.BitXor num a b h k = xors_in num _ _ h k
both_stay o.BitOr num a b h k = ors_in num _ _ h k
both_stay o.Equal num a b h k = truth_in _ _
both_stay o.NotEqual num a b h k = truth_in _ _
both_stay o.Less num a b h k = truth_in _ _
both_stay o.LessEqual num a b h k = truth_in _ _
both_stay o.Greater num a b h k = truth_in _ _
both_stay o.GreaterEqual num a b h k = truth_in _ _

pub operators_stay : OperatorsStay
operators_stay o.ShiftLeft num a b h k = shift_left_stays num a b (is_at num a h)
operators_stay o.ShiftRight num a b h k = shift_right_stays num a b (is_at num a h)
operators_stay op num a b h k = both_stay op num a b (is_at num a h) (is_at num b k)

-- ---- operators before an operand

top_is : (num : Num) → num_lo num +ℤ num_hi num ≡ cond (not_negative (range_of num)) (num_hi num) (negsuc 0)
top_is I8 = refl
top_is U8 = refl
top_is I16 = refl
top_is U16 = refl
top_is I32 = refl
top_is U32 = refl
top_is I64 = refl
top_is U64 = refl

complements_in : (num : Num) (a : Span) → IsAt num a → IsIn num (complement_of (range_of num) a)
complements_in num a h = rw (← top_is num) (record { ordered = omega (arith, ints, h.whole.ordered); part = record { above = omega (arith, ints, h.part.below); below = omega (arith, ints, h.part.above) } })

converted_prefix_stays : (op : Prefix) (num : Num) (a : Span) → IsAt num (as_span num a) → IfSome (prefix_span op num a) (λ s. IsIn (prefix_type op num) s)
unfolding prefix_span
converted_prefix_stays p.Minus num a h = fit_stays num _ (difference_ordered (single (pos 0)) _ zero_up h.whole.ordered)
converted_prefix_stays p.Plus num a h = record { ordered = h.whole.ordered; part = h.part }
converted_prefix_stays p.Complement num a h = complements_in num (as_span num a) h
converted_prefix_stays p.Not num a h = truth_in _ _

pub prefixes_stay : PrefixesStay
prefixes_stay op num a h = converted_prefix_stays op num a (is_at num a h)

-- ---- the premises

pub unsigned_suits : UnsignedSuits
unfolding as_span
unsigned_suits num s e h = record { small = h; converts = rw (e, unsigned_is num e) (wrap_stays s (bits num) (num_facts num).width.1 h.ordered).1 }

signed_suits : (num : Num) (s : Span) → is_signed num ≡ true → IsSmallSpan s → IsPart s (range_of num) → Suits num s
unfolding as_span
signed_suits num s e h part = record { small = h; converts = rw e part }

-- a type that is unsigned or holds the whole of another
abbrev takes : Num → Num → Bool
takes t u = not (is_signed u) || is_part (range_of t) (range_of u)

suits_from : (t u : Num) (s : Span) → IsIn t s → takes t u ≡ true → Suits u s
suits_from t u s h e =
    let small = in_small t s h in
    elim (is_signed u) as (λ b. is_signed u ≡ b → (not b || is_part (range_of t) (range_of u)) ≡ true → Suits u s) [
      | true ↦ λ f wide.
          let part = is_part_from (range_of t) (range_of u) wide in
          signed_suits u s f small (record { above = ≤ℤ_trans _ _ _ part.above h.part.above; below = ≤ℤ_trans _ _ _ h.part.below part.below })
      | false ↦ λ f _. unsigned_suits u s f small
    ] refl e

own_takes : (num : Num) → takes num num ≡ true
own_takes I8 = refl
own_takes U8 = refl
own_takes I16 = refl
own_takes U16 = refl
own_takes I32 = refl
own_takes U32 = refl
own_takes I64 = refl
own_takes U64 = refl

promoted_takes : (num : Num) → takes num (promoted num) ≡ true
promoted_takes I8 = refl
promoted_takes U8 = refl
promoted_takes I16 = refl
promoted_takes U16 = refl
promoted_takes I32 = refl
promoted_takes U32 = refl
promoted_takes I64 = refl
promoted_takes U64 = refl

common_takes : (t u : Num) → (takes t (common t u) && takes u (common t u)) ≡ true
common_takes U64 u = refl
common_takes I64 U64 = refl
common_takes I64 u = refl
common_takes U32 U64 = refl
common_takes U32 I64 = refl
common_takes U32 u = refl
common_takes t U64 = refl
common_takes t I64 = refl
common_takes t U32 = refl
common_takes t u = refl

common_takes_right : (t u : Num) → takes u (common t u) ≡ true
common_takes_right t u = (both_true (takes t (common t u)) (takes u (common t u)) (common_takes t u)).1

common_takes_left : (t u : Num) → takes t (common t u) ≡ true
common_takes_left t u = (both_true (takes t (common t u)) (takes u (common t u)) (common_takes t u)).0

pub own_type_suits : OwnTypeSuits
own_type_suits num s h = suits_from num num s h (own_takes num)

pub promoted_suits : PromotedSuits
promoted_suits num s h = suits_from num (promoted num) s h (promoted_takes num)

pub common_suits : CommonSuits
common_suits t u s h = (suits_from t (common t u) s h (common_takes_left t u), suits_from t (common u t) s h (common_takes_right u t))
