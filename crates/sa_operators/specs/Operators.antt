-- What operators and conversions make of spans, and the alarms that checking mode finds at them. Spans of operands aren't converted yet.
-- That a result outside a signed type is met with the type after its alarm is this project's own choice: no execution goes on from there (ISO C 6.5p5).
use Rattle.std.specs.Prelude.{◌^◌, ◌-◌, ℤ, pos, negsuc, ◌≤ℤ◌, Bool, false, ◌&&◌, ◌||◌, not, if◌then◌else◌, List, [], ◌∷◌, ◌++◌, Option, Some, None}
use Rattle.std.specs.Int.RustNames.{int_le, int_lt}
use Rattle.std.specs.Ordering.{int_eq}
use Rattle.sa_base.specs.Numbers.{num_lo, num_hi}
use Rattle.sa_base.specs.declared.num.Num.{Num}
use Rattle.sa_base.specs.declared.pos.Pos.{Pos}
use Rattle.sa_base.specs.declared.alarm.Alarm.{Alarm}
use Rattle.sa_base.specs.declared.alarm.Kind.{Kind}
use Rattle.sa_base.specs.declared.alarm.Kind.TheVariants.{Overflow, Division, Shift, Conversion}
use Rattle.sa_interval.specs.Span.{Span, IsPart}
use Rattle.sa_interval.specs.Rows.{single, are_single, is_zero, is_part, meet_of, sum_of, difference_of, product_of, quotient_of, remainder_of}
use Rattle.sa_interval.specs.BitRows.{left_shift_of, right_shift_of, and_of, or_of, xor_of, complement_of, wrap_of}
use Rattle.sa_typed.specs.Arithmetic.{bits, is_signed}
use Rattle.sa_typed.specs.declared.expr.Operator.{Operator}
use Rattle.sa_typed.specs.declared.expr.Operator.TheVariants as o
use Rattle.sa_typed.specs.declared.expr.Prefix.{Prefix}
use Rattle.sa_typed.specs.declared.expr.Prefix.TheVariants as p

-- ---- types

-- the numbers of a type
abbrev pub range_of : Num → Span
range_of num = record { lo = num_lo num; hi = num_hi num }

-- the numbers from the least to the greatest of all types
abbrev pub all_types : Span
all_types = record { lo = negsuc (2 ^ 63 - 1); hi = pos (2 ^ 64 - 1) }

-- the span of a value of the type: it isn't empty, and lies in the type's range
pub record IsIn (num : Num) (s : Span) : Type 0 where
  pub ordered : s.lo ≤ℤ s.hi
  pub part : IsPart s (range_of num)

-- ---- conversions

-- the spans that aren't there have no results
abbrev pub then_span : Option Span → (Span → Option Span) → Option Span
then_span None go = None
then_span (Some s) go = go s

-- operands converted to the type in which their operator works (ISO C 6.3.1.8)
unfoldable pub as_span : Num → Span → Span
as_span num s = if is_signed num then s else wrap_of s (bits num)

-- numbers in a type: of a signed one those that it holds, of an unsigned one what wrapping leaves
unfoldable pub in_type_span : Num → Span → Option Span
in_type_span num s = if is_signed num then meet_of s (range_of num) else Some (wrap_of s (bits num))

-- results of arithmetic (ISO C 6.5p5, 6.2.5p9), and numbers converted by a cast or an assignment (6.3.1.3)
abbrev pub fitted_span : Num → Span → Option Span
fitted_span num s = in_type_span num s

abbrev pub converted_span : Num → Span → Option Span
converted_span num s = in_type_span num s

-- one alarm, or none
abbrev pub alarm_if : Bool → Pos → Kind → List Alarm
alarm_if may p kind = if may then record { pos = p; kind = kind } ∷ [] else []

-- an alarm where a signed type may not hold a number
unfoldable pub fit_alarms : Num → Pos → Kind → Span → List Alarm
fit_alarms num p kind s = alarm_if (is_signed num && not (is_part s (range_of num))) p kind

abbrev pub conversion_alarms : Num → Pos → Span → List Alarm
conversion_alarms num p s = fit_alarms num p Conversion s

-- ---- operators, of spans in the type

-- the number may be one of the span
abbrev pub may_be : Span → ℤ → Bool
may_be s z = int_le s.lo z && int_le z s.hi

unfoldable pub quotient_span : Num → Span → Span → Option Span
quotient_span num a b = then_span (quotient_of a b) (fitted_span num)

abbrev pub fit_alarms_if : Num → Pos → Kind → Option Span → List Alarm
fit_alarms_if num p kind None = []
fit_alarms_if num p kind (Some s) = fit_alarms num p kind s

unfoldable pub quotient_alarms : Num → Pos → Span → Span → List Alarm
quotient_alarms num p a b = alarm_if (may_be b (pos 0)) p Division ++ fit_alarms_if num p Overflow (quotient_of a b)

-- only the least number by -1 has a quotient outside a signed type
unfoldable pub remainder_alarms : Num → Pos → Span → Span → List Alarm
remainder_alarms num p a b =
    alarm_if (may_be b (pos 0)) p Division
    ++ alarm_if (is_signed num && (may_be a (num_lo num) && may_be b (negsuc 0))) p Overflow

-- the counts of bits by which a number of the type may be shifted
abbrev pub counts : Num → Span
counts num = record { lo = pos 0; hi = pos (bits num - 1) }

-- the numbers that may be shifted to the left: of a signed type those that aren't negative
abbrev pub not_below_zero : Num → Span
not_below_zero num = record { lo = pos 0; hi = num_hi num }

abbrev pub shiftable : Num → Span → Option Span
shiftable num a = if is_signed num then meet_of a (not_below_zero num) else Some a

-- what shifting gives before it is fitted to the type
unfoldable pub left_shifts : Num → Span → Span → Option Span
left_shifts num a b = then_span (shiftable num a) (λ x. then_span (meet_of b (counts num)) (λ c. Some (left_shift_of x c)))

unfoldable pub left_shift_span : Num → Span → Span → Option Span
left_shift_span num a b = then_span (left_shifts num a b) (fitted_span num)

-- the span is there and goes outside the type
abbrev pub may_leave : Num → Option Span → Bool
may_leave num None = false
may_leave num (Some s) = not (is_part s (range_of num))

-- the count, the number that is shifted or the result may be wrong
unfoldable pub left_shift_errs : Num → Span → Span → Bool
left_shift_errs num a b =
    not (is_part b (counts num)) || (is_signed num && (not (is_part a (not_below_zero num)) || may_leave num (left_shifts num a b)))

unfoldable pub right_shift_span : Num → Span → Span → Option Span
right_shift_span num a b = then_span (meet_of b (counts num)) (λ c. Some (right_shift_of a c))

-- 1 where it always holds, 0 where it never does
abbrev pub truth_span : Bool → Bool → Span
truth_span always never = if always then single (pos 1) else (if never then single (pos 0) else record { lo = pos 0; hi = pos 1 })

abbrev pub always_equal : Span → Span → Bool
always_equal a b = are_single a b && int_eq a.lo b.lo

abbrev pub never_equal : Span → Span → Bool
never_equal a b = int_lt a.hi b.lo || int_lt b.hi a.lo

abbrev pub less_span : Span → Span → Span
less_span a b = truth_span (int_lt a.hi b.lo) (int_le b.hi a.lo)

abbrev pub less_equal_span : Span → Span → Span
less_equal_span a b = truth_span (int_le a.hi b.lo) (int_lt b.hi a.lo)

-- an operator that works in the type `num`; the count of a shift stays as it is (ISO C 6.5.5 to 6.5.12)
unfoldable pub operator_span : Operator → Num → Span → Span → Option Span
operator_span o.Plus num a b = fitted_span num (sum_of (as_span num a) (as_span num b))
operator_span o.Minus num a b = fitted_span num (difference_of (as_span num a) (as_span num b))
operator_span o.Times num a b = fitted_span num (product_of (as_span num a) (as_span num b))
operator_span o.Divide num a b = quotient_span num (as_span num a) (as_span num b)
operator_span o.Remainder num a b = remainder_of (as_span num a) (as_span num b)
operator_span o.ShiftLeft num a b = left_shift_span num (as_span num a) b
operator_span o.ShiftRight num a b = right_shift_span num (as_span num a) b
operator_span o.BitAnd num a b = Some (and_of (as_span num a) (as_span num b) (range_of num))
operator_span o.BitXor num a b = Some (xor_of (as_span num a) (as_span num b) (range_of num))
operator_span o.BitOr num a b = Some (or_of (as_span num a) (as_span num b) (range_of num))
operator_span o.Equal num a b = Some (truth_span (always_equal (as_span num a) (as_span num b)) (never_equal (as_span num a) (as_span num b)))
operator_span o.NotEqual num a b = Some (truth_span (never_equal (as_span num a) (as_span num b)) (always_equal (as_span num a) (as_span num b)))
operator_span o.Less num a b = Some (less_span (as_span num a) (as_span num b))
operator_span o.LessEqual num a b = Some (less_equal_span (as_span num a) (as_span num b))
operator_span o.Greater num a b = Some (less_span (as_span num b) (as_span num a))
operator_span o.GreaterEqual num a b = Some (less_equal_span (as_span num b) (as_span num a))

unfoldable pub operator_alarms : Operator → Pos → Num → Span → Span → List Alarm
operator_alarms o.Plus p num a b = fit_alarms num p Overflow (sum_of (as_span num a) (as_span num b))
operator_alarms o.Minus p num a b = fit_alarms num p Overflow (difference_of (as_span num a) (as_span num b))
operator_alarms o.Times p num a b = fit_alarms num p Overflow (product_of (as_span num a) (as_span num b))
operator_alarms o.Divide p num a b = quotient_alarms num p (as_span num a) (as_span num b)
operator_alarms o.Remainder p num a b = remainder_alarms num p (as_span num a) (as_span num b)
operator_alarms o.ShiftLeft p num a b = alarm_if (left_shift_errs num (as_span num a) b) p Shift
operator_alarms o.ShiftRight p num a b = alarm_if (not (is_part b (counts num))) p Shift
operator_alarms op p num a b = []

-- ---- an operator before its operand (ISO C 6.5.3.3)

abbrev pub negated_span : Num → Span → Span
negated_span num a = difference_of (single (pos 0)) a

unfoldable pub prefix_span : Prefix → Num → Span → Option Span
prefix_span p.Minus num a = fitted_span num (negated_span num (as_span num a))
prefix_span p.Plus num a = Some (as_span num a)
prefix_span p.Complement num a = Some (complement_of (range_of num) (as_span num a))
prefix_span p.Not num a = Some (truth_span (is_zero (as_span num a)) (not (may_be (as_span num a) (pos 0))))

unfoldable pub prefix_alarms : Prefix → Pos → Num → Span → List Alarm
prefix_alarms p.Minus p num a = fit_alarms num p Overflow (negated_span num (as_span num a))
prefix_alarms op p num a = []
