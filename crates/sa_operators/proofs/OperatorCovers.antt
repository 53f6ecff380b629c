-- Operators on spans cover those on numbers.
use Rattle.std.proofs.Common.{◌≡◌, ◌≢◌, ℕ, ◌^◌, ◌-◌, ◌≤◌, ◌<◌, ℤ, pos, negsuc, neg_ℤ, ◌≤ℤ◌, ◌<ℤ◌, ◌+ℤ◌, ◌-ℤ◌, ◌*ℤ◌, int_div, int_rem, unsigned_abs, Bool, true, false, ◌&&◌, ◌||◌, not, cond, IsTrue, ◌⊎◌, inl, inr, Option, Some, None, option_map, is_some, IsSomeAnd, IfSome, List, [], ◌∷◌, ◌++◌, arith, refl, sym, ap}
use Rattle.std.specs.Prelude.{Result, Ok, Err, zero, suc}
use Rattle.std.proofs.Math.Nat.{div-le_self, div-one}
use Rattle.std.specs.Int.{w128, int_max, int_min, int_shr, int_bit_and, int_bit_or, int_bit_xor}
use Rattle.std.specs.Int.RustNames.{int_le, int_lt}
use Rattle.std.specs.Ordering.{int_eq}
use Rattle.std.proofs.lemmas.Int.{ints, clamps, by_lt_z}
use Rattle.sa_base.specs.Numbers.{num_lo, num_hi}
use Rattle.sa_base.specs.declared.num.Num.{Num}
use Rattle.sa_base.specs.declared.num.Num.TheVariants.{I8, U8, I16, U16, I32, U32, I64, U64}
use Rattle.sa_base.specs.declared.pos.Pos.{Pos}
use Rattle.sa_base.specs.declared.alarm.Alarm.{Alarm}
use Rattle.sa_base.specs.declared.alarm.Kind.{Kind}
use Rattle.sa_base.specs.declared.alarm.Kind.TheVariants.{Overflow, Division, Shift}
use Rattle.sa_interval.specs.Span.{Span, Within, IsPart, IsInterval, IsLeast, IsBound, Holds, cut, low_limit, high_limit}
use Rattle.sa_interval.specs.Rows.{single, are_single, is_single, is_zero, meet_of, is_part, sum_of, difference_of, product_of, quotient_of, quotients_by, below_zero, above_zero, join_some, join_of, remainder_of, remainders_of, Quotients, Remainders}
use Rattle.sa_interval.specs.Types.{IsTypeRange}
use Rattle.sa_interval.specs.BitRows.{left_shift_of, right_shift_of, and_of, or_of, xor_of, complement_of, complement, not_negative, LeftShifts, RightShifts}
use Rattle.sa_interval.proofs.Least.{both_true, are_points}
use Rattle.sa_interval.proofs.Sums.{least_sum, least_difference}
use Rattle.sa_interval.proofs.Products.{least_product}
use Rattle.sa_interval.proofs.Quotients.{least_quotient}
use Rattle.sa_interval.proofs.Remainders.{remainders_hold, nonzero_from, small as rem_small}
use Rattle.sa_interval.proofs.Shifts.{least_left_shift, least_right_shift}
use Rattle.sa_interval.proofs.BitOps.{and_keeps, or_keeps, xor_keeps, ands_hold, ors_hold, xors_hold, magnitude}
use Rattle.sa_interval.proofs.TypeRanges.{KeepsBits, type_keeps, type_bound}
use Rattle.sa_numbers.proofs.Cut.{cut-inside}
use Rattle.sa_numbers.proofs.Order.{le_from, le_to, above_from, above_to, lt_from, lt_to, not_lt_from, ≤ℤ_trans}
use Rattle.sa_numbers.proofs.Remainders.{remainder_of_above, remainder_of_below}
use Rattle.sa_numbers.proofs.Quotients.{div-le-div_right}
use Rattle.sa_numbers.proofs.Products.{times_up}
use Rattle.sa_numbers.proofs.Shifts.{shift-size}
use Rattle.std.proofs.Math.IntN.{zero-*ℤ}
use Rattle.sa_typed.specs.Arithmetic.{bits, is_signed, is_of, IsOf, wrapped, as_num, in_type, fitted, divided, remaindered, is_count, shifted, shifted_left, shifted_right, truth, complemented, operate, prefixed}
use Rattle.sa_typed.specs.declared.expr.Operator.{Operator}
use Rattle.sa_typed.specs.declared.expr.Operator.TheVariants as o
use Rattle.sa_typed.specs.declared.expr.Prefix.{Prefix}
use Rattle.sa_typed.specs.declared.expr.Prefix.TheVariants as p
use Rattle.sa_typed.proofs.ArithmeticLaws.{num_facts, is_of_from, is_of_to, shifted_up}
use Rattle.sa_operators.specs.Operators.{range_of, all_types, IsIn, then_span, as_span, in_type_span, fitted_span, alarm_if, fit_alarms, fit_alarms_if, may_be, quotient_span, quotient_alarms, remainder_alarms, counts, not_below_zero, shiftable, left_shifts, left_shift_span, may_leave, left_shift_errs, right_shift_span, truth_span, always_equal, never_equal, less_span, less_equal_span, negated_span, operator_span, operator_alarms, prefix_span, prefix_alarms}
use Rattle.sa_operators.specs.OperatorLaws.{IsSmallSpan, Suits, Covers, OperatorsCover, PrefixesCover}
use Rattle.sa_operators.specs.Alarms.{IsAmong}
use Rattle.sa_operators.proofs.FitLaws.{signed_is, unsigned_is, type_range, is_part_from, is_part_to, within_part, meet_holds, meet_stays, IsLimited, least_limited, small_limited, small_cut, small_interval, in_small, operands_cover, operands_stay, of_cut, uncut_of, fit_covers, wrapped_within, outside_alarms, true_false}

-- ---- alarms

among_left : (a : Alarm) (xs ys : List Alarm) → IsAmong a xs → IsAmong a (xs ++ ys)
among_left a [] ys h = absurd h
among_left a (x ∷ xs) ys (inl e) = inl e
among_left a (x ∷ xs) ys (inr h) = inr (among_left a xs ys h)

among_right : (a : Alarm) (xs ys : List Alarm) → IsAmong a ys → IsAmong a (xs ++ ys)
among_right a [] ys h = h
among_right a (x ∷ xs) ys h = inr (among_right a xs ys h)

alarm_given : (b : Bool) (p : Pos) (kind : Kind) → b ≡ true → IsAmong (record { pos = p; kind = kind }) (alarm_if b p kind)
alarm_given b p kind e = rw e (inl refl)

-- errors among the first alarms, or the last
covers_right : (p : Pos) (s : Option Span) (xs ys : List Alarm) (r : Result ℤ Kind) → Covers p s ys r → Covers p s (xs ++ ys) r
covers_right p s xs ys (Ok z) h = h
covers_right p s xs ys (Err kind) h = among_right (record { pos = p; kind = kind }) xs ys h

may_be_to : (s : Span) (z : ℤ) → Within s z → may_be s z ≡ true
may_be_to s z w = rw (le_to s.lo z w.above, le_to z s.hi w.below) refl

eq_from : (x y : ℤ) → int_eq x y ≡ true → x ≡ y
eq_from x y e = grind (arith, ints)

eq_not : (x y : ℤ) → int_eq x y ≡ false → x ≢ y
eq_not x y e = grind (arith, ints)

eq_to : (x y : ℤ) → x ≡ y → int_eq x y ≡ true
eq_to x y e = grind (arith, ints)

-- ---- `/`

join_there : (s : Option Span) (t : Span) → is_some (join_some s (Some t)) ≡ true
join_there None t = refl
join_there (Some s) t = refl

join_there_first : (s : Span) (t : Option Span) → is_some (join_some (Some s) t) ≡ true
join_there_first s None = refl
join_there_first s (Some t) = refl

-- a divisor other than 0 gives quotients
quotient_there : (a b : Span) (y : ℤ) → IsInterval b → Within b y → y ≢ pos 0 → is_some (quotient_of a b) ≡ true
quotient_there a b y i w nonzero =
    by_lt_z y (pos 0)
    (λ down.
    let low : ℤ = int_max b.lo low_limit in
    let high : ℤ = int_min b.hi (negsuc 0) in
    let order : low ≤ℤ high = omega (arith, ints, clamps, i.low, w.above, w.below) in
    rw (le_to low high order) (join_there_first _ (option_map (quotients_by a) (above_zero b))))
    (λ rest.
    let low : ℤ = int_max b.lo (pos 1) in
    let high : ℤ = int_min b.hi high_limit in
    let order : low ≤ℤ high = above_low b y i w rest nonzero in
    rw (le_to low high order) (join_there (option_map (quotients_by a) (below_zero b)) _))
  where
    above_low : (b : Span) (y : ℤ) → IsInterval b → Within b y → pos 0 ≤ℤ y → y ≢ pos 0 → int_max b.lo (pos 1) ≤ℤ int_min b.hi high_limit
    above_low b y i w rest nonzero = by_lt_z (pos 0) y (λ up. omega (arith, ints, clamps, i.high, w.above, w.below)) (λ none. absurd (nonzero (omega (arith, ints))))

quotient_fits : (num : Num) (p : Pos) (a b : Span) (z : ℤ) (q : Option Span) → is_some q ≡ true → IfSome q (λ q. IsLeast (Quotients a b) q) → Quotients a b z →
    Covers p (then_span q (fitted_span num)) (fit_alarms_if num p Overflow q) (fitted num z)
quotient_fits num p a b z None e least is = cc
quotient_fits num p a b z (Some q) e least is = fit_covers Overflow num p q z (least_limited (Quotients a b) q least) (least.holds z is)

quotients_cover : (num : Num) (p : Pos) (a b : Span) (x y : ℤ) → IsInterval a → IsInterval b → Within a x → Within b y → Covers p (quotient_span num a b) (quotient_alarms num p a b) (divided num x y)
unfolding quotient_span quotient_alarms divided
quotients_cover num p a b x y i j v w =
    elim (int_eq y (pos 0)) as (λ t. int_eq y (pos 0) ≡ t → Covers p (then_span (quotient_of a b) (fitted_span num)) (alarm_if (may_be b (pos 0)) p Division ++ fit_alarms_if num p Overflow (quotient_of a b)) (cond t (Err Division) (fitted num (int_div x y)))) [
      | true ↦ λ e.
          let zero : y ≡ pos 0 = eq_from y (pos 0) e in
          among_left _ _ _ (alarm_given (may_be b (pos 0)) p Division (may_be_to b (pos 0) (rw zero at w)))
      | false ↦ λ e.
          let nonzero = eq_not y (pos 0) e in
          covers_right p _ (alarm_if (may_be b (pos 0)) p Division) _ (fitted num (int_div x y))
          (quotient_fits num p a b (int_div x y) (quotient_of a b) (quotient_there a b y j w nonzero) (least_quotient a b i j) (x, y, v, w, nonzero, refl))
    ] refl

-- ---- `%`

signed_ends : (num : Num) → is_signed num ≡ true → (n : ℕ) × (num_lo num ≡ negsuc n) × (num_hi num ≡ pos n)
signed_ends I8 e = (2 ^ 7 - 1, refl, refl)
signed_ends I16 e = (2 ^ 15 - 1, refl, refl)
signed_ends I32 e = (2 ^ 31 - 1, refl, refl)
signed_ends I64 e = (2 ^ 63 - 1, refl, refl)
signed_ends U8 e = cc
signed_ends U16 e = cc
signed_ends U32 e = cc
signed_ends U64 e = cc

-- only the least number by -1 has a quotient outside
past_ends : (n : ℕ) (x y : ℤ) → negsuc n ≤ℤ x → x ≤ℤ pos n → (int_div x y <ℤ negsuc n) ⊎ (pos n <ℤ int_div x y) → (x ≡ negsuc n) × (y ≡ negsuc 0)
past_ends n (pos a) (pos b) low high out =
    let le = div-le_self a b in
    elim out [ inl h ↦ absurd (omega (arith, ints)) | inr h ↦ absurd (omega (arith, ints)) ]
past_ends n (pos a) (negsuc b) low high out =
    let le = div-le_self a (suc b) in
    elim out [ inl h ↦ absurd (omega (arith, ints)) | inr h ↦ absurd (omega (arith, ints)) ]
past_ends n (negsuc a) (pos b) low high out =
    let le = div-le_self (suc a) b in
    elim out [ inl h ↦ absurd (omega (arith, ints)) | inr h ↦ absurd (omega (arith, ints)) ]
past_ends n (negsuc a) (negsuc zero) low high out =
    let same = div-one (suc a) in
    elim out [ inl h ↦ absurd (omega (arith, ints)) | inr h ↦ (omega (arith, ints), refl) ]
past_ends n (negsuc a) (negsuc (suc b)) low high out =
    let half = div-le-div_right (suc a) 2 (suc (suc b)) (omega arith) (omega arith) in
    elim out [ inl h ↦ absurd (omega (arith, ints)) | inr h ↦ absurd (omega (arith, ints)) ]

-- a number that isn't of a type is below its least or above its greatest
not_of : (num : Num) (z : ℤ) → is_of num z ≡ false → (z <ℤ num_lo num) ⊎ (num_hi num <ℤ z)
not_of num z e =
    by_lt_z z (num_lo num)
    (λ under. inl under)
    (λ low. by_lt_z (num_hi num) z
    (λ over. inr over)
    (λ high. absurd (true_false (is_of num z) (is_of_to num z (record { low = low; high = high })) e)))

least_by_one : (num : Num) (x y : ℤ) → is_signed num ≡ true → IsOf num x → is_of num (int_div x y) ≡ false → (x ≡ num_lo num) × (y ≡ negsuc 0)
least_by_one num x y s h out =
    let ends = signed_ends num s in
    let past = past_ends ends.0 x y (rw (← ends.1) h.low) (rw (← ends.2) h.high) (rw (ends.1, ends.2) at (not_of num (int_div x y) out)) in
    (rw ends.1 past.0, past.1)

not_zero_alone : (b : Span) (y : ℤ) → Within b y → y ≢ pos 0 → is_zero b ≡ false
not_zero_alone b y w nonzero =
    elim (is_zero b) as (λ t. is_zero b ≡ t → t ≡ false) [
      | true ↦ λ e.
          let both = both_true (int_eq b.lo (pos 0)) (int_eq b.hi (pos 0)) e in
          let lo = eq_from b.lo (pos 0) both.0 in
          let hi = eq_from b.hi (pos 0) both.1 in
          absurd (nonzero (omega (arith, ints, w.above, w.below)))
      | false ↦ λ _. refl
    ] refl

remainder_value : (a b : Span) (x y : ℤ) → IsInterval a → b.lo ≤ℤ b.hi → Within a x → Within b y → y ≢ pos 0 → IsSomeAnd (remainder_of a b) (λ s. Within s (int_rem x y))
remainder_value a b x y i order v w nonzero =
    let zero = not_zero_alone b y w nonzero in
    let held = remainders_hold a b i order (nonzero_from b zero) (int_rem x y) (x, y, v, w, nonzero, refl) in
    let bound = rem_small a x y i v in
    rw zero (rw (cut-inside (int_rem x y) bound.low bound.high) at held)

remainders_cover : (num : Num) (p : Pos) (a b : Span) (x y : ℤ) → IsInterval a → b.lo ≤ℤ b.hi → IsOf num x → Within a x → Within b y → Covers p (remainder_of a b) (remainder_alarms num p a b) (remaindered num x y)
unfolding remainder_alarms remaindered
remainders_cover num p a b x y i order of v w =
    elim (int_eq y (pos 0)) as (λ t. int_eq y (pos 0) ≡ t → Covers p (remainder_of a b) (first ++ last) (cond t (Err Division) (cond (is_signed num && not (is_of num (int_div x y))) (Err Overflow) (Ok (int_rem x y))))) [
      | true ↦ λ e. among_left _ first last (alarm_given (may_be b (pos 0)) p Division (may_be_to b (pos 0) (rw (eq_from y (pos 0) e) at w)))
      | false ↦ λ e.
          elim (is_signed num) as (λ s. is_signed num ≡ s → Covers p (remainder_of a b) (first ++ alarm_if (s && (may_be a (num_lo num) && may_be b (negsuc 0))) p Overflow) (cond (s && not (is_of num (int_div x y))) (Err Overflow) (Ok (int_rem x y)))) [
            | true ↦ λ s. elim (is_of num (int_div x y)) as (λ t. is_of num (int_div x y) ≡ t → Covers p (remainder_of a b) (first ++ alarm_if (may_be a (num_lo num) && may_be b (negsuc 0)) p Overflow) (cond (not t) (Err Overflow) (Ok (int_rem x y)))) [
              | true ↦ λ _. remainder_value a b x y i order v w (eq_not y (pos 0) e)
              | false ↦ λ out.
                  let ends = least_by_one num x y s of out in
                  among_right _ first _ (alarm_given (may_be a (num_lo num) && may_be b (negsuc 0)) p Overflow
                  (rw (may_be_to a (num_lo num) (rw ends.0 at v), may_be_to b (negsuc 0) (rw ends.1 at w)) refl))
            ] refl
            | false ↦ λ _. remainder_value a b x y i order v w (eq_not y (pos 0) e)
          ] refl
    ] refl
  where
    first : List Alarm
    first = alarm_if (may_be b (pos 0)) p Division

    last : List Alarm
    last = alarm_if (is_signed num && (may_be a (num_lo num) && may_be b (negsuc 0))) p Overflow

-- ---- shifts

abbrev all_counts : Span
all_counts = record { lo = pos 0; hi = pos 63 }

-- a span of counts
pub record IsCounts (c : Span) : Type 0 where
  pub ordered : c.lo ≤ℤ c.hi
  pub part : IsPart c all_counts

count_from : (num : Num) (y : ℤ) → is_count num y ≡ true → Within (counts num) y
count_from num y e =
    let both = both_true (int_le (pos 0) y) (int_lt y (pos (bits num))) e in
    let low = le_from (pos 0) y both.0 in
    let high = lt_from y (pos (bits num)) both.1 in
    let some = (num_facts num).width.0 in
    record { above = low; below = omega (arith, ints) }

count_to : (num : Num) (y : ℤ) → Within (counts num) y → is_count num y ≡ true
count_to num y w =
    let some = (num_facts num).width.0 in
    let high : y <ℤ pos (bits num) = omega (arith, ints, w.below) in
    rw (le_to (pos 0) y w.above, lt_to y (pos (bits num)) high) refl

-- a wrong count has its span outside
count_outside : (num : Num) (b : Span) (y : ℤ) → Within b y → is_count num y ≡ false → not (is_part b (counts num)) ≡ true
count_outside num b y w out =
    elim (is_part b (counts num)) as (λ t. is_part b (counts num) ≡ t → not t ≡ true) [
      | true ↦ λ e. absurd (true_false (is_count num y) (count_to num y (within_part b (counts num) y (is_part_from b (counts num) e) w)) out)
      | false ↦ λ _. refl
    ] refl

pub if_some : (o : Option Span) (P Q : Span → Type 0) → ((t : Span) → P t → Q t) → IfSome o P → IfSome o Q
if_some None P Q f h = tt
if_some (Some t) P Q f h = f t h

pub counts_stay : (num : Num) (b : Span) → IfSome (meet_of b (counts num)) IsCounts
counts_stay num b =
    let few = (num_facts num).width.1 in
    if_some (meet_of b (counts num)) (λ m. (m.lo ≤ℤ m.hi) × IsPart m b × IsPart m (counts num)) IsCounts
    (λ m h. record { ordered = h.0; part = record { above = h.2.above; below = omega (arith, ints, h.2.below) } })
    (meet_stays b (counts num))

right_holds : (a : Span) (x y : ℤ) (o : Option Span) → IsInterval a → Within a x → pos 0 ≤ℤ y → IfSome o IsCounts → IsSomeAnd o (λ c. Within c y) → IsSomeAnd (then_span o (λ c. Some (right_shift_of a c))) (λ s. Within s (int_shr x (unsigned_abs y)))
right_holds a x y None i v up h w = absurd w
right_holds a x y (Some c) i v up h w =
    let held = (least_right_shift a c i h.ordered h.part).holds (int_shr x (unsigned_abs y)) (x, unsigned_abs y, v, rw (magnitude y up) w, refl) in
    let size = shift-size x (unsigned_abs y) (2 ^ 100) (omega (arith, ints, i.low, v.above)) (omega (arith, ints, i.high, v.below)) in
    rw (cut-inside (int_shr x (unsigned_abs y)) size.0 size.1) at held

right_shifts_cover : (num : Num) (p : Pos) (a b : Span) (x y : ℤ) → IsInterval a → Within a x → Within b y → Covers p (right_shift_span num a b) (alarm_if (not (is_part b (counts num))) p Shift) (shifted_right num x y)
unfolding right_shift_span shifted_right
right_shifts_cover num p a b x y i v w =
    elim (is_count num y) as (λ t. is_count num y ≡ t → Covers p (then_span (meet_of b (counts num)) (λ c. Some (right_shift_of a c))) (alarm_if (not (is_part b (counts num))) p Shift) (cond t (Ok (int_shr x (unsigned_abs y))) (Err Shift))) [
      | true ↦ λ e.
          let count = count_from num y e in
          right_holds a x y (meet_of b (counts num)) i v count.above (counts_stay num b) (meet_holds b (counts num) y w count)
      | false ↦ λ e. alarm_given (not (is_part b (counts num))) p Shift (count_outside num b y w e)
    ] refl

-- numbers that may be shifted to the left
pub record IsShiftable (m : Span) : Type 0 where
  pub whole : IsInterval m
  pub up : pos 0 ≤ℤ m.lo

pub shiftable_stays : (num : Num) (a : Span) → IsInterval a → IsPart a (range_of num) → IfSome (shiftable num a) IsShiftable
shiftable_stays num a i part =
    elim (is_signed num) as (λ s. is_signed num ≡ s → IfSome (cond s (meet_of a (not_below_zero num)) (Some a)) IsShiftable) [
      | true ↦ λ _. if_some (meet_of a (not_below_zero num)) (λ m. (m.lo ≤ℤ m.hi) × IsPart m a × IsPart m (not_below_zero num)) IsShiftable
          (λ m h. record { whole = record { ordered = h.0; low = ≤ℤ_trans _ _ _ i.low h.1.above; high = ≤ℤ_trans _ _ _ h.1.below i.high }; up = h.2.above })
          (meet_stays a (not_below_zero num))
      | false ↦ λ e. record { whole = i; up = (rw (unsigned_is num e) at part).above }
    ] refl

shiftable_holds : (num : Num) (a : Span) (x : ℤ) → Within a x → pos 0 ≤ℤ x → x ≤ℤ num_hi num → IsSomeAnd (shiftable num a) (λ m. Within m x)
shiftable_holds num a x v up high =
    elim (is_signed num) as (λ s. IsSomeAnd (cond s (meet_of a (not_below_zero num)) (Some a)) (λ m. Within m x)) [
      | true ↦ meet_holds a (not_below_zero num) x v (record { above = up; below = high })
      | false ↦ v
    ]

left_holds : (x y : ℤ) (o c : Option Span) → pos 0 ≤ℤ y → IfSome o IsShiftable → IsSomeAnd o (λ m. Within m x) → IfSome c IsCounts → IsSomeAnd c (λ c. Within c y) →
    IsSomeAnd (then_span o (λ m. then_span c (λ c. Some (left_shift_of m c)))) (λ s. IsLimited s × Within s (cut (shifted x y)))
left_holds x y None c up m v h w = absurd v
left_holds x y (Some a) None up m v h w = absurd w
left_holds x y (Some a) (Some c) up m v h w =
    let least = least_left_shift a c m.whole m.up h.ordered h.part in
    (least_limited (LeftShifts a c) (left_shift_of a c) least, least.holds (shifted x y) (x, unsigned_abs y, v, rw (magnitude y up) w, refl))

left_shifts_hold : (num : Num) (a b : Span) (x y : ℤ) → IsInterval a → IsPart a (range_of num) → Within a x → Within b y → is_count num y ≡ true → pos 0 ≤ℤ x → x ≤ℤ num_hi num →
    IsSomeAnd (left_shifts num a b) (λ s. IsLimited s × Within s (cut (shifted x y)))
unfolding left_shifts
left_shifts_hold num a b x y i part v w e up high =
    let count = count_from num y e in
    left_holds x y (shiftable num a) (meet_of b (counts num)) count.above (shiftable_stays num a i part) (shiftable_holds num a x v up high) (counts_stay num b) (meet_holds b (counts num) y w count)

signed_fits : (num : Num) (z : ℤ) (o : Option Span) → is_signed num ≡ true → IsOf num z → IsSomeAnd o (λ s. IsLimited s × Within s (cut z)) → IsSomeAnd (then_span o (fitted_span num)) (λ s. Within s z)
unfolding in_type_span
signed_fits num z None e h w = absurd w
signed_fits num z (Some s) e h w = rw e (meet_holds s (range_of num) z (rw (of_cut num z h) at w.1) (record { above = h.low; below = h.high }))

unsigned_fits : (num : Num) (z : ℤ) (o : Option Span) → is_signed num ≡ false → IsSomeAnd o (λ s. IsLimited s × Within s (cut z)) → IsSomeAnd (then_span o (fitted_span num)) (λ s. Within s (wrapped num z))
unfolding in_type_span
unsigned_fits num z None e w = absurd w
unsigned_fits num z (Some s) e w = rw e (wrapped_within num s z w.0 w.1)

-- a result outside the type has its span outside
leaves : (num : Num) (z : ℤ) (o : Option Span) → is_of num z ≡ false → IsSomeAnd o (λ s. IsLimited s × Within s (cut z)) → may_leave num o ≡ true
leaves num z None out w = absurd w
leaves num z (Some s) out w =
    elim (is_part s (range_of num)) as (λ b. is_part s (range_of num) ≡ b → not b ≡ true) [
      | true ↦ λ e.
          let inside = within_part s (range_of num) (cut z) (is_part_from s (range_of num) e) w.1 in
          absurd (true_false (is_of num z) (is_of_to num z (uncut_of num z (record { low = inside.above; high = inside.below }))) out)
      | false ↦ λ _. refl
    ] refl

below_outside : (num : Num) (a : Span) (x : ℤ) → Within a x → int_le (pos 0) x ≡ false → not (is_part a (not_below_zero num)) ≡ true
below_outside num a x v e =
    let down = above_from (pos 0) x e in
    elim (is_part a (not_below_zero num)) as (λ t. is_part a (not_below_zero num) ≡ t → not t ≡ true) [
      | true ↦ λ t. let part = is_part_from a (not_below_zero num) t in absurd (omega (arith, ints, part.above, v.above))
      | false ↦ λ _. refl
    ] refl

any_count : (c r : Bool) → c ≡ true → (c || r) ≡ true
any_count c r e = rw e refl

any_sign : (c s g l : Bool) → s ≡ true → g ≡ true → (c || (s && (g || l))) ≡ true
any_sign true s g l e f = refl
any_sign false s g l e f = rw (e, f) refl

any_result : (c s g l : Bool) → s ≡ true → l ≡ true → (c || (s && (g || l))) ≡ true
any_result true s g l e f = refl
any_result false s true l e f = rw e refl
any_result false s false l e f = rw (e, f) refl

-- the three causes of the alarm
count_errs : (num : Num) (a b : Span) → not (is_part b (counts num)) ≡ true → left_shift_errs num a b ≡ true
unfolding left_shift_errs
count_errs num a b e = any_count (not (is_part b (counts num))) _ e

sign_errs : (num : Num) (a b : Span) → is_signed num ≡ true → not (is_part a (not_below_zero num)) ≡ true → left_shift_errs num a b ≡ true
unfolding left_shift_errs
sign_errs num a b s e = any_sign (not (is_part b (counts num))) (is_signed num) (not (is_part a (not_below_zero num))) (may_leave num (left_shifts num a b)) s e

result_errs : (num : Num) (a b : Span) → is_signed num ≡ true → may_leave num (left_shifts num a b) ≡ true → left_shift_errs num a b ≡ true
unfolding left_shift_errs
result_errs num a b s e = any_result (not (is_part b (counts num))) (is_signed num) (not (is_part a (not_below_zero num))) (may_leave num (left_shifts num a b)) s e

above_not_of : (num : Num) (z : ℤ) → int_le z (num_hi num) ≡ false → is_of num z ≡ false
above_not_of num z e = rw e (and_false (int_le (num_lo num) z))
  where
    and_false : (p : Bool) → (p && false) ≡ false
    and_false true = refl
    and_false false = refl

left_shifts_cover : (num : Num) (p : Pos) (a b : Span) (x y : ℤ) → IsInterval a → IsPart a (range_of num) → IsOf num x → Within a x → Within b y → Covers p (left_shift_span num a b) (alarm_if (left_shift_errs num a b) p Shift) (shifted_left num x y)
unfolding left_shift_span shifted_left
left_shifts_cover num p a b x y i part of v w =
    let shifts : Option Span = left_shifts num a b in
    let alarms : List Alarm = alarm_if (left_shift_errs num a b) p Shift in
    let top : ℤ = num_hi num in
    let z : ℤ = shifted x y in
    let holds : is_count num y ≡ true → pos 0 ≤ℤ x → IsSomeAnd shifts (λ s. IsLimited s × Within s (cut z)) = λ e up. left_shifts_hold num a b x y i part v w e up of.high in
    elim (is_count num y) as (λ t. is_count num y ≡ t → Covers p (then_span shifts (fitted_span num)) alarms (cond (not t) (Err Shift) (cond (is_signed num) (cond (int_le (pos 0) x && int_le z top) (Ok z) (Err Shift)) (Ok (wrapped num z))))) [
      | true ↦ λ e. elim (is_signed num) as (λ s. is_signed num ≡ s → Covers p (then_span shifts (fitted_span num)) alarms (cond s (cond (int_le (pos 0) x && int_le z top) (Ok z) (Err Shift)) (Ok (wrapped num z)))) [
        | true ↦ λ s. elim (int_le (pos 0) x) as (λ t. int_le (pos 0) x ≡ t → Covers p (then_span shifts (fitted_span num)) alarms (cond (t && int_le z top) (Ok z) (Err Shift))) [
          | true ↦ λ t.
              let up = le_from (pos 0) x t in
              elim (int_le z top) as (λ u. int_le z top ≡ u → Covers p (then_span shifts (fitted_span num)) alarms (cond u (Ok z) (Err Shift))) [
                | true ↦ λ u.
                    let facts = num_facts num in
                    let is : IsOf num z = record { low = ≤ℤ_trans _ _ _ facts.not_above (shifted_up x y up); high = le_from z top u } in
                    signed_fits num z shifts s is (holds e up)
                | false ↦ λ u. alarm_given _ p Shift (result_errs num a b s (leaves num z shifts (above_not_of num z u) (holds e up)))
              ] refl
          | false ↦ λ t. alarm_given _ p Shift (sign_errs num a b s (below_outside num a x v t))
        ] refl
        | false ↦ λ s.
            let up : pos 0 ≤ℤ a.lo = (rw (unsigned_is num s) at part).above in
            unsigned_fits num z shifts s (holds e (≤ℤ_trans _ _ _ up v.above))
      ] refl
      | false ↦ λ e. alarm_given _ p Shift (count_errs num a b (count_outside num b y w e))
    ] refl

-- ---- `&`, `|` and `^`

bits_hold : (op : ℤ → ℤ → ℤ) → KeepsBits op → (num : Num) (a b s : Span) (x y : ℤ) → IsPart a (range_of num) → IsPart b (range_of num) → Within a x → Within b y → Within s (cut (op x y)) → Within s (op x y)
bits_hold op keeps num a b s x y p q v w held =
    let full = type_range num in
    let inside = type_keeps op keeps (range_of num) x y full (within_part a (range_of num) x p v) (within_part b (range_of num) y q w) in
    let bound = type_bound (range_of num) (op x y) full inside in
    rw (cut-inside (op x y) bound.low bound.high) at held

-- ---- comparisons

truth_holds : (t always never : Bool) → (always ≡ true → t ≡ true) → (never ≡ true → t ≡ false) → Within (truth_span always never) (truth t)
truth_holds t true never a n = rw (a refl) (record { above = omega (arith, ints); below = omega (arith, ints) })
truth_holds t false true a n = rw (n refl) (record { above = omega (arith, ints); below = omega (arith, ints) })
truth_holds true false false a n = record { above = omega (arith, ints); below = omega (arith, ints) }
truth_holds false false false a n = record { above = omega (arith, ints); below = omega (arith, ints) }

always_is : (a b : Span) (x y : ℤ) → Within a x → Within b y → always_equal a b ≡ true → int_eq x y ≡ true
always_is a b x y v w e =
    let both = both_true (are_single a b) (int_eq a.lo b.lo) e in
    let points = are_points a b x y both.0 v w in
    rw (points.0, points.1) both.1

eq_false : (x y : ℤ) → x <ℤ y → int_eq x y ≡ false
eq_false x y h = grind (arith, ints)

eq_false_above : (x y : ℤ) → y <ℤ x → int_eq x y ≡ false
eq_false_above x y h = grind (arith, ints)

or_cases : (p q : Bool) → (p || q) ≡ true → (p ≡ true) ⊎ (q ≡ true)
or_cases true q e = inl refl
or_cases false q e = inr e

never_is : (a b : Span) (x y : ℤ) → Within a x → Within b y → never_equal a b ≡ true → int_eq x y ≡ false
never_is a b x y v w e =
    elim (or_cases (int_lt a.hi b.lo) (int_lt b.hi a.lo) e) [
      | inl h ↦ let apart = lt_from a.hi b.lo h in eq_false x y (omega (arith, ints, v.below, w.above))
      | inr h ↦ let apart = lt_from b.hi a.lo h in eq_false_above x y (omega (arith, ints, v.above, w.below))
    ]

equal_holds : (a b : Span) (x y : ℤ) → Within a x → Within b y → Within (truth_span (always_equal a b) (never_equal a b)) (truth (int_eq x y))
equal_holds a b x y v w = truth_holds (int_eq x y) (always_equal a b) (never_equal a b) (always_is a b x y v w) (never_is a b x y v w)

unequal_holds : (a b : Span) (x y : ℤ) → Within a x → Within b y → Within (truth_span (never_equal a b) (always_equal a b)) (truth (not (int_eq x y)))
unequal_holds a b x y v w =
    truth_holds (not (int_eq x y)) (never_equal a b) (always_equal a b) (λ e. rw (never_is a b x y v w e) refl) (λ e. rw (always_is a b x y v w e) refl)

lt_false : (x y : ℤ) → y ≤ℤ x → int_lt x y ≡ false
lt_false x y h = grind (arith, ints)

less_holds : (a b : Span) (x y : ℤ) → Within a x → Within b y → Within (less_span a b) (truth (int_lt x y))
less_holds a b x y v w =
    truth_holds (int_lt x y) (int_lt a.hi b.lo) (int_le b.hi a.lo)
    (λ e. let apart = lt_from a.hi b.lo e in lt_to x y (omega (arith, ints, v.below, w.above)))
    (λ e. let apart = le_from b.hi a.lo e in lt_false x y (omega (arith, ints, v.above, w.below)))

less_equal_holds : (a b : Span) (x y : ℤ) → Within a x → Within b y → Within (less_equal_span a b) (truth (int_le x y))
less_equal_holds a b x y v w =
    truth_holds (int_le x y) (int_le a.hi b.lo) (int_lt b.hi a.lo)
    (λ e. let apart = le_from a.hi b.lo e in le_to x y (omega (arith, ints, v.below, w.above)))
    (λ e. let apart = lt_from b.hi a.lo e in above_to x y (omega (arith, ints, v.above, w.below)))

-- ---- all operators

abbrev CoversOp : Operator → Pos → Num → Span → Span → ℤ → ℤ → Type 0
CoversOp op p num a b x y = Covers p (operator_span op num a b) (operator_alarms op p num a b) (operate op num x y)

-- an operand converted: its span, and its number
pub record IsConverted (num : Num) (s : Span) (z : ℤ) : Type 0 where
  pub span : IsInterval (as_span num s)
  pub part : IsPart (as_span num s) (range_of num)
  pub holds : Within (as_span num s) (as_num num z)
  pub value : IsOf num (as_num num z)

pub is_converted : (num : Num) (s : Span) (z : ℤ) → Suits num s → Within s z → IsConverted num s z
is_converted num s z h w =
    let in_type = operands_stay num s h in
    let inside = operands_cover num s z h.small w in
    let of = within_part (as_span num s) (range_of num) (as_num num z) h.converts inside in
    record {
      span = small_interval (as_span num s) (in_small num (as_span num s) in_type);
      part = h.converts;
      holds = inside;
      value = record { low = of.above; high = of.below };
    }

-- an operator whose right operand isn't converted: the count of a shift
shift_left_covers : (p : Pos) (num : Num) (a b : Span) (x y : ℤ) → IsConverted num a x → Within b y → CoversOp o.ShiftLeft p num a b x y
unfolding operate operator_span operator_alarms
shift_left_covers p num a b x y c w = left_shifts_cover num p (as_span num a) b (as_num num x) y c.span c.part c.value c.holds w

shift_right_covers : (p : Pos) (num : Num) (a b : Span) (x y : ℤ) → IsConverted num a x → Within b y → CoversOp o.ShiftRight p num a b x y
unfolding operate operator_span operator_alarms
shift_right_covers p num a b x y c w = right_shifts_cover num p (as_span num a) b (as_num num x) y c.span c.holds w

sum_covers : (p : Pos) (num : Num) (a b : Span) (x y : ℤ) → IsConverted num a x → IsConverted num b y → CoversOp o.Plus p num a b x y
unfolding operate operator_span operator_alarms
sum_covers p num a b x y c d =
    let least = least_sum (as_span num a) (as_span num b) c.span.ordered d.span.ordered in
    fit_covers Overflow num p _ _ (least_limited _ _ least) (least.holds _ (as_num num x, as_num num y, c.holds, d.holds, refl))

difference_covers : (p : Pos) (num : Num) (a b : Span) (x y : ℤ) → IsConverted num a x → IsConverted num b y → CoversOp o.Minus p num a b x y
unfolding operate operator_span operator_alarms
difference_covers p num a b x y c d =
    let least = least_difference (as_span num a) (as_span num b) c.span.ordered d.span.ordered in
    fit_covers Overflow num p _ _ (least_limited _ _ least) (least.holds _ (as_num num x, as_num num y, c.holds, d.holds, refl))

product_covers : (p : Pos) (num : Num) (a b : Span) (x y : ℤ) → IsConverted num a x → IsConverted num b y → CoversOp o.Times p num a b x y
unfolding operate operator_span operator_alarms
product_covers p num a b x y c d =
    let least = least_product (as_span num a) (as_span num b) c.span.ordered d.span.ordered in
    fit_covers Overflow num p _ _ (least_limited _ _ least) (least.holds _ (as_num num x, as_num num y, c.holds, d.holds, refl))

-- the operators that convert both operands
both_cover : (op : Operator) (p : Pos) (num : Num) (a b : Span) (x y : ℤ) → IsConverted num a x → IsConverted num b y → Within b y → CoversOp op p num a b x y
unfolding operate operator_span operator_alarms
both_cover o.Plus p num a b x y c d w = sum_covers p num a b x y c d
both_cover o.Minus p num a b x y c d w = difference_covers p num a b x y c d
both_cover o.Times p num a b x y c d w = product_covers p num a b x y c d
both_cover o.Divide p num a b x y c d w = quotients_cover num p (as_span num a) (as_span num b) (as_num num x) (as_num num y) c.span d.span c.holds d.holds
both_cover o.Remainder p num a b x y c d w = remainders_cover num p (as_span num a) (as_span num b) (as_num num x) (as_num num y) c.span d.span.ordered c.value c.holds d.holds
both_cover o.ShiftLeft p num a b x y c d w = shift_left_covers p num a b x y c w
both_cover o.ShiftRight p num a b x y c d w = shift_right_covers p num a b x y c w
both_cover o.BitAnd p num a b x y c d w = bits_hold (int_bit_and w128) and_keeps num _ _ _ _ _ c.part d.part c.holds d.holds (ands_hold _ _ _ (type_range num) c.part d.part _ (as_num num x, as_num num y, c.holds, d.holds, refl))
both_cover o.BitXor p num a b x y c d w = bits_hold (int_bit_xor w128) xor_keeps num _ _ _ _ _ c.part d.part c.holds d.holds (xors_hold _ _ _ (type_range num) c.part d.part _ (as_num num x, as_num num y, c.holds, d.holds, refl))
both_cover o.BitOr p num a b x y c d w = bits_hold (int_bit_or w128) or_keeps num _ _ _ _ _ c.part d.part c.holds d.holds (ors_hold _ _ _ (type_range num) c.part d.part _ (as_num num x, as_num num y, c.holds, d.holds, refl))
both_cover o.Equal p num a b x y c d w = equal_holds _ _ _ _ c.holds d.holds
both_cover o.NotEqual p num a b x y c d w = unequal_holds _ _ _ _ c.holds d.holds
both_cover o.Less p num a b x y c d w = less_holds _ _ _ _ c.holds d.holds
both_cover o.LessEqual p num a b x y c d w = less_equal_holds _ _ _ _ c.holds d.holds
both_cover o.Greater p num a b x y c d w = less_holds _ _ _ _ d.holds c.holds
both_cover o.GreaterEqual p num a b x y c d w = less_equal_holds _ _ _ _ d.holds c.holds

pub operators_cover : OperatorsCover
operators_cover o.ShiftLeft p num a b x y h k v w = shift_left_covers p num a b x y (is_converted num a x h v) w
operators_cover o.ShiftRight p num a b x y h k v w = shift_right_covers p num a b x y (is_converted num a x h v) w
operators_cover op p num a b x y h k v w = both_cover op p num a b x y (is_converted num a x h v) (is_converted num b y k w) w

-- ---- operators before an operand

top_is : (num : Num) → cond (not_negative (range_of num)) (num_hi num) (negsuc 0) ≡ cond (is_signed num) (negsuc 0) (num_hi num)
top_is I8 = refl
top_is U8 = refl
top_is I16 = refl
top_is U16 = refl
top_is I32 = refl
top_is U32 = refl
top_is I64 = refl
top_is U64 = refl

complement_holds : (num : Num) (a : Span) (x : ℤ) → Within a x → Within (complement_of (range_of num) a) (complemented num x)
complement_holds num a x w = rw (← top_is num) (record { above = omega (arith, ints, w.below); below = omega (arith, ints, w.above) })

not_holds : (a : Span) (x : ℤ) → Within a x → Within (truth_span (is_zero a) (not (may_be a (pos 0)))) (truth (int_eq x (pos 0)))
not_holds a x w =
    truth_holds (int_eq x (pos 0)) (is_zero a) (not (may_be a (pos 0)))
    (λ e.
    let both = both_true (int_eq a.lo (pos 0)) (int_eq a.hi (pos 0)) e in
    let lo = eq_from a.lo (pos 0) both.0 in
    let hi = eq_from a.hi (pos 0) both.1 in
    eq_to x (pos 0) (omega (arith, ints, w.above, w.below)))
    (λ e. elim (int_eq x (pos 0)) as (λ t. int_eq x (pos 0) ≡ t → t ≡ false) [
      | true ↦ λ t. absurd (not_true (may_be a (pos 0)) (may_be_to a (pos 0) (rw (eq_from x (pos 0) t) at w)) e)
      | false ↦ λ _. refl
    ] refl)
  where
    not_true : (b : Bool) → b ≡ true → not b ≡ true → ⊥
    not_true true e f = cc
    not_true false e f = cc

zero_within : Within (single (pos 0)) (pos 0)
zero_within = record { above = omega (arith, ints); below = omega (arith, ints) }

converted_prefix_covers : (op : Prefix) (p : Pos) (num : Num) (a : Span) (x : ℤ) → IsConverted num a x → Covers p (prefix_span op num a) (prefix_alarms op p num a) (prefixed op num x)
unfolding prefixed prefix_span prefix_alarms
converted_prefix_covers p.Minus p num a x c =
    let least = least_difference (single (pos 0)) (as_span num a) (omega (arith, ints)) c.span.ordered in
    fit_covers Overflow num p _ _ (least_limited _ _ least) (least.holds _ (pos 0, as_num num x, zero_within, c.holds, refl))
converted_prefix_covers p.Plus p num a x c = c.holds
converted_prefix_covers p.Complement p num a x c = complement_holds num (as_span num a) (as_num num x) c.holds
converted_prefix_covers p.Not p num a x c = not_holds (as_span num a) (as_num num x) c.holds

pub prefixes_cover : PrefixesCover
prefixes_cover op p num a x h w = converted_prefix_covers op p num a x (is_converted num a x h w)
