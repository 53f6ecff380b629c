-- Operators on spans computed on samples, whose values come from the rules by hand.
use Rattle.std.proofs.Common.{◌≡◌, ℤ, pos, negsuc, Some, None, [], ◌∷◌, refl}
use Rattle.sa_base.specs.declared.alarm.Kind.TheVariants.{Overflow, Division, Shift}
use Rattle.sa_base.specs.declared.num.Num.TheVariants.{I32, U8, U32}
use Rattle.sa_base.specs.declared.pos.Pos.{Pos}
use Rattle.sa_interval.specs.Span.{Span}
use Rattle.sa_interval.specs.Rows.{quotients_by}
use Rattle.sa_numbers.specs.Corners.{least_of_four, greatest_of_four}
use Rattle.sa_typed.specs.declared.expr.Operator.TheVariants as o
use Rattle.sa_typed.specs.declared.expr.Prefix.TheVariants as p
use Rattle.sa_operators.specs.Operators.{as_span, in_type_span, fit_alarms, quotient_span, quotient_alarms, remainder_alarms, left_shifts, left_shift_span, left_shift_errs, right_shift_span, converted_span, operator_span, operator_alarms, prefix_span, prefix_alarms}

abbrev to : ℤ → ℤ → Span
to low high = record { lo = low; hi = high }

abbrev at : Pos
at = record { line = 3; col = 7 }

-- 0 to the greatest int, and 1
sum_met : operator_span o.Plus I32 (to (pos 0) (pos 2147483647)) (to (pos 1) (pos 1)) ≡ Some (to (pos 1) (pos 2147483647))
unfolding operator_span as_span in_type_span
sum_met = refl

sum_alarmed : operator_alarms o.Plus at I32 (to (pos 0) (pos 2147483647)) (to (pos 1) (pos 1)) ≡ record { pos = at; kind = Overflow } ∷ []
unfolding operator_alarms as_span fit_alarms
sum_alarmed = refl

-- the greatest int and 1 alone have no sum
no_sum : operator_span o.Plus I32 (to (pos 2147483647) (pos 2147483647)) (to (pos 1) (pos 1)) ≡ None
unfolding operator_span as_span in_type_span
no_sum = refl

-- 10 to 20 less 15 as unsigned int goes both below zero and above
difference_wraps : operator_span o.Minus U32 (to (pos 10) (pos 20)) (to (pos 15) (pos 15)) ≡ Some (to (pos 0) (pos 4294967295))
unfolding operator_span as_span in_type_span
difference_wraps = refl

difference_quiet : operator_alarms o.Minus at U32 (to (pos 10) (pos 20)) (to (pos 15) (pos 15)) ≡ []
unfolding operator_alarms as_span fit_alarms
difference_quiet = refl

-- 7 to 9 by -1 to 2, and by 0 alone
quotient_spans : operator_span o.Divide I32 (to (pos 7) (pos 9)) (to (negsuc 0) (pos 2)) ≡ Some (to (negsuc 8) (pos 9))
unfolding operator_span as_span in_type_span quotient_span quotients_by least_of_four greatest_of_four
quotient_spans = refl

quotient_alarmed : operator_alarms o.Divide at I32 (to (pos 7) (pos 9)) (to (negsuc 0) (pos 2)) ≡ record { pos = at; kind = Division } ∷ []
unfolding operator_alarms as_span fit_alarms quotient_alarms quotients_by least_of_four greatest_of_four
quotient_alarmed = refl

no_quotient : operator_span o.Divide I32 (to (pos 7) (pos 9)) (to (pos 0) (pos 0)) ≡ None
unfolding operator_span as_span quotient_span
no_quotient = refl

-- the least int by -1: an alarm, and the value of the row
remainder_alarmed : operator_alarms o.Remainder at I32 (to (negsuc 2147483647) (negsuc 2147483647)) (to (negsuc 0) (negsuc 0)) ≡ record { pos = at; kind = Overflow } ∷ []
unfolding operator_alarms as_span remainder_alarms
remainder_alarmed = refl

remainder_zero : operator_span o.Remainder I32 (to (negsuc 2147483647) (negsuc 2147483647)) (to (negsuc 0) (negsuc 0)) ≡ Some (to (pos 0) (pos 0))
unfolding operator_span as_span
remainder_zero = refl

-- -2 to 3 shifted to the left by -1 to 2, and 1 by 31
shift_met : operator_span o.ShiftLeft I32 (to (negsuc 1) (pos 3)) (to (negsuc 0) (pos 2)) ≡ Some (to (pos 0) (pos 12))
unfolding operator_span as_span in_type_span left_shift_span left_shifts
shift_met = refl

shift_alarmed : operator_alarms o.ShiftLeft at I32 (to (negsuc 1) (pos 3)) (to (negsuc 0) (pos 2)) ≡ record { pos = at; kind = Shift } ∷ []
unfolding operator_alarms as_span left_shift_errs left_shifts
shift_alarmed = refl

shift_leaves : operator_alarms o.ShiftLeft at I32 (to (pos 1) (pos 1)) (to (pos 31) (pos 31)) ≡ record { pos = at; kind = Shift } ∷ []
unfolding operator_alarms as_span left_shift_errs left_shifts
shift_leaves = refl

no_shift : operator_span o.ShiftLeft I32 (to (pos 1) (pos 1)) (to (pos 31) (pos 31)) ≡ None
unfolding operator_span as_span in_type_span left_shift_span left_shifts
no_shift = refl

shift_quiet : operator_alarms o.ShiftLeft at U32 (to (pos 1) (pos 1)) (to (pos 31) (pos 31)) ≡ []
unfolding operator_alarms as_span left_shift_errs left_shifts
shift_quiet = refl

-- -5 to 9 shifted to the right by 1 to 2
shift_right : operator_span o.ShiftRight I32 (to (negsuc 4) (pos 9)) (to (pos 1) (pos 2)) ≡ Some (to (negsuc 2) (pos 4))
unfolding operator_span as_span right_shift_span least_of_four greatest_of_four
shift_right = refl

-- -1 compared with 0u to 7u is the greatest unsigned int
less_never : operator_span o.Less U32 (to (negsuc 0) (negsuc 0)) (to (pos 0) (pos 7)) ≡ Some (to (pos 0) (pos 0))
unfolding operator_span as_span
less_never = refl

equal_open : operator_span o.Equal I32 (to (pos 1) (pos 4)) (to (pos 4) (pos 7)) ≡ Some (to (pos 0) (pos 1))
unfolding operator_span as_span
equal_open = refl

unequal_always : operator_span o.NotEqual I32 (to (pos 1) (pos 3)) (to (pos 4) (pos 7)) ≡ Some (to (pos 1) (pos 1))
unfolding operator_span as_span
unequal_always = refl

-- -(least int), !(1 to 4), ~0u
negation_alarmed : prefix_alarms p.Minus at I32 (to (negsuc 2147483647) (pos 0)) ≡ record { pos = at; kind = Overflow } ∷ []
unfolding prefix_alarms as_span fit_alarms
negation_alarmed = refl

not_never : prefix_span p.Not I32 (to (pos 1) (pos 4)) ≡ Some (to (pos 0) (pos 0))
unfolding prefix_span as_span
not_never = refl

complement_unsigned : prefix_span p.Complement U32 (to (pos 0) (pos 0)) ≡ Some (to (pos 4294967295) (pos 4294967295))
unfolding prefix_span as_span
complement_unsigned = refl

-- -1 to 300 to the type of 8 bits without a sign
conversion_wraps : converted_span U8 (to (negsuc 0) (pos 300)) ≡ Some (to (pos 0) (pos 255))
unfolding in_type_span
conversion_wraps = refl
