-- What each call of an interval gives, and the results that it stands for.
use Rattle.std.specs.Prelude.{ℤ, pos, negsuc, neg_ℤ, ◌≡◌, ◌≢◌, ◌+ℤ◌, ◌-ℤ◌, ◌*ℤ◌, Option, Some, None, option_map, Bool, ◌&&◌, if◌then◌else◌, int_div, int_rem}
use Rattle.std.specs.Int.{int_max, int_min}
use Rattle.std.specs.Int.RustNames.{int_le}
use Rattle.std.specs.Ordering.{int_eq}
use Rattle.sa_interval.specs.Span.{Span, Within, cut, low_limit, high_limit}
use Rattle.sa_numbers.specs.Corners.{least_of_four, greatest_of_four}

-- ---- order

-- the least span that both lie in
abbrev pub join_of : Span → Span → Span
join_of a b = record { lo = int_min a.lo b.lo; hi = int_max a.hi b.hi }

-- the numbers that lie in both, None where there is none
abbrev pub meet_of : Span → Span → Option Span
meet_of a b = if int_le (int_max a.lo b.lo) (int_min a.hi b.hi) then Some (record { lo = int_max a.lo b.lo; hi = int_min a.hi b.hi }) else None

-- whether the first lies in the second
abbrev pub is_part : Span → Span → Bool
is_part a b = int_le b.lo a.lo && int_le a.hi b.hi

-- one number
abbrev pub single : ℤ → Span
single z = record { lo = z; hi = z }

abbrev pub is_single : Span → Bool
is_single a = int_eq a.lo a.hi

abbrev pub are_single : Span → Span → Bool
are_single a b = is_single a && is_single b

abbrev pub is_zero : Span → Bool
is_zero a = int_eq a.lo (pos 0) && int_eq a.hi (pos 0)

-- the least span that holds four numbers
abbrev pub hull : ℤ → ℤ → ℤ → ℤ → Span
hull p q r s = record { lo = least_of_four p q r s; hi = greatest_of_four p q r s }

-- ---- sums and differences

-- the sums of a number of the first and a number of the second
abbrev pub Sums : Span → Span → ℤ → Type 0
Sums a b z = (x : ℤ) × (y : ℤ) × Within a x × Within b y × (z ≡ x +ℤ y)

abbrev pub Differences : Span → Span → ℤ → Type 0
Differences a b z = (x : ℤ) × (y : ℤ) × Within a x × Within b y × (z ≡ x -ℤ y)

abbrev pub sum_of : Span → Span → Span
sum_of a b = record { lo = cut (a.lo +ℤ b.lo); hi = cut (a.hi +ℤ b.hi) }

abbrev pub difference_of : Span → Span → Span
difference_of a b = record { lo = cut (a.lo -ℤ b.hi); hi = cut (a.hi -ℤ b.lo) }

-- ---- products

abbrev pub Products : Span → Span → ℤ → Type 0
Products a b z = (x : ℤ) × (y : ℤ) × Within a x × Within b y × (z ≡ x *ℤ y)

-- along each factor a product only rises or only falls, so its ends are at the corners
abbrev pub product_of : Span → Span → Span
product_of a b = hull (cut (a.lo *ℤ b.lo)) (cut (a.lo *ℤ b.hi)) (cut (a.hi *ℤ b.lo)) (cut (a.hi *ℤ b.hi))

-- ---- quotients, which truncate towards zero (ISO C 6.5.5)

abbrev pub Quotients : Span → Span → ℤ → Type 0
Quotients a b z = (x : ℤ) × (y : ℤ) × Within a x × Within b y × (y ≢ pos 0) × (z ≡ int_div x y)

-- the divisors below zero and those above
abbrev pub below_zero : Span → Option Span
below_zero b = meet_of b (record { lo = low_limit; hi = negsuc 0 })

abbrev pub above_zero : Span → Option Span
above_zero b = meet_of b (record { lo = pos 1; hi = high_limit })

-- by divisors of one sign
unfoldable pub quotients_by : Span → Span → Span
quotients_by a b = hull (int_div a.lo b.lo) (int_div a.lo b.hi) (int_div a.hi b.lo) (int_div a.hi b.hi)

-- the join of those that are there
abbrev pub join_some : Option Span → Option Span → Option Span
join_some None t = t
join_some (Some s) None = Some s
join_some (Some s) (Some t) = Some (join_of s t)

abbrev pub quotient_of : Span → Span → Option Span
quotient_of a b = join_some (option_map (quotients_by a) (below_zero b)) (option_map (quotients_by a) (above_zero b))

-- ---- remainders, which have the dividend's sign (ISO C 6.5.5)

abbrev pub Remainders : Span → Span → ℤ → Type 0
Remainders a b z = (x : ℤ) × (y : ℤ) × Within a x × Within b y × (y ≢ pos 0) × (z ≡ int_rem x y)

-- the greatest size of a divisor, less 1
abbrev pub largest_remainder : Span → ℤ
largest_remainder b = int_max (neg_ℤ b.lo) b.hi -ℤ pos 1

-- dividends of one sign have no remainder of the other; which bounds are kept otherwise is this project's own choice
abbrev pub remainders_up_to : ℤ → Span → Span
remainders_up_to most a = record {
  lo = if int_le (pos 0) a.lo then pos 0 else int_max a.lo (neg_ℤ most);
  hi = if int_le a.hi (pos 0) then pos 0 else int_min a.hi most;
}

-- by a divisor other than 0 alone
abbrev pub remainders_of : Span → Span → Span
remainders_of a b = if are_single a b then single (int_rem a.lo b.lo) else remainders_up_to (largest_remainder b) a

abbrev pub remainder_of : Span → Span → Option Span
remainder_of a b = if is_zero b then None else Some (remainders_of a b)
