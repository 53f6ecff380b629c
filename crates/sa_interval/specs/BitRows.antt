-- What each call on bits gives, and the results that it stands for.
-- Numbers are read in two's complement. 128 bits hold every number of C's types, so the operations are taken at that width. The rows are this project's own choice among sound ones.
use Rattle.std.specs.Prelude.{ℕ, ◌^◌, ℤ, pos, negsuc, ◌≡◌, ◌-ℤ◌, ◌*ℤ◌, unsigned_abs, Bool, ◌&&◌, ◌||◌, not, if◌then◌else◌}
use Rattle.std.specs.Int.{w128, int_max, int_min, int_bit_and, int_bit_or, int_bit_xor, int_shr, int_rem_euclid}
use Rattle.std.specs.Int.RustNames.{int_le}
use Rattle.std.specs.Ordering.{int_eq}
use Rattle.sa_interval.specs.Span.{Span, Within, cut, low_limit, high_limit}
use Rattle.sa_interval.specs.Rows.{hull, single, are_single}
use Rattle.sa_interval.specs.Types.{unsigned_range}
use Rattle.sa_numbers.specs.Masks.{least_mask}

-- ---- shifts (ISO C 6.5.7); a count is a number of bits

-- to the left: the product by a power of two
abbrev pub LeftShifts : Span → Span → ℤ → Type 0
LeftShifts a counts z = (x : ℤ) × (count : ℕ) × Within a x × Within counts (pos count) × (z ≡ x *ℤ pos (2 ^ count))

abbrev pub left_shift_of : Span → Span → Span
left_shift_of a counts = record {
  lo = cut (a.lo *ℤ pos (2 ^ unsigned_abs counts.lo));
  hi = cut (a.hi *ℤ pos (2 ^ unsigned_abs counts.hi));
}

-- to the right: the quotient by a power of two, rounded down. For a negative number ISO C leaves this open, and rounding down is this project's own choice
abbrev pub RightShifts : Span → Span → ℤ → Type 0
RightShifts a counts z = (x : ℤ) × (count : ℕ) × Within a x × Within counts (pos count) × (z ≡ int_shr x count)

abbrev pub right_shift_of : Span → Span → Span
right_shift_of a counts =
    hull (int_shr a.lo (unsigned_abs counts.lo)) (int_shr a.lo (unsigned_abs counts.hi)) (int_shr a.hi (unsigned_abs counts.lo)) (int_shr a.hi (unsigned_abs counts.hi))

-- ---- `&`, `|` and `^` (ISO C 6.5.10 to 6.5.12), of operands within the range `full` of a type

-- no number is negative
abbrev pub not_negative : Span → Bool
not_negative a = int_le (pos 0) a.lo

abbrev pub Ands : Span → Span → ℤ → Type 0
Ands a b z = (x : ℤ) × (y : ℤ) × Within a x × Within b y × (z ≡ int_bit_and w128 x y)

abbrev pub and_of : Span → Span → Span → Span
and_of a b full =
    if are_single a b then single (int_bit_and w128 a.lo b.lo)
    else (if not_negative a && not_negative b then record { lo = pos 0; hi = int_min a.hi b.hi }
    else (if not_negative a then record { lo = pos 0; hi = a.hi }
    else (if not_negative b then record { lo = pos 0; hi = b.hi } else full)))

-- the least 2 ^ n - 1 that holds both highs
abbrev pub mask_of_highs : Span → Span → ℤ
mask_of_highs a b = pos (least_mask (unsigned_abs (int_max a.hi b.hi)))

abbrev pub Ors : Span → Span → ℤ → Type 0
Ors a b z = (x : ℤ) × (y : ℤ) × Within a x × Within b y × (z ≡ int_bit_or w128 x y)

abbrev pub or_of : Span → Span → Span → Span
or_of a b full =
    if are_single a b then single (int_bit_or w128 a.lo b.lo)
    else (if not_negative a && not_negative b then record { lo = int_max a.lo b.lo; hi = mask_of_highs a b } else full)

abbrev pub Xors : Span → Span → ℤ → Type 0
Xors a b z = (x : ℤ) × (y : ℤ) × Within a x × Within b y × (z ≡ int_bit_xor w128 x y)

abbrev pub xor_of : Span → Span → Span → Span
xor_of a b full =
    if are_single a b then single (int_bit_xor w128 a.lo b.lo)
    else (if not_negative a && not_negative b then record { lo = pos 0; hi = mask_of_highs a b } else full)

-- ---- `~` (ISO C 6.5.3.3): of an unsigned type the greatest number less the operand, of a signed type -1 less the operand

abbrev pub complement : Span → ℤ → ℤ
complement full x = (if not_negative full then full.hi else negsuc 0) -ℤ x

abbrev pub Complements : Span → Span → ℤ → Type 0
Complements full a z = (x : ℤ) × Within a x × (z ≡ complement full x)

abbrev pub complement_of : Span → Span → Span
complement_of full a = record { lo = complement full a.hi; hi = complement full a.lo }

-- ---- conversion to an unsigned type (ISO C 6.3.1.3): the residue by 2 ^ bits

abbrev pub Residues : Span → ℕ → ℤ → Type 0
Residues a bits z = (x : ℤ) × Within a x × (z ≡ int_rem_euclid x (pos (2 ^ bits)))

-- a bound at the limit means no bound
abbrev pub is_cut : Span → Bool
is_cut a = int_eq a.lo low_limit || int_eq a.hi high_limit

-- the bounds lie in one block of 2 ^ bits numbers
abbrev pub in_one_block : Span → ℕ → Bool
in_one_block a bits = not (is_cut a) && int_eq (int_shr a.lo bits) (int_shr a.hi bits)

abbrev pub wrap_of : Span → ℕ → Span
wrap_of a bits =
    if in_one_block a bits then record { lo = int_rem_euclid a.lo (pos (2 ^ bits)); hi = int_rem_euclid a.hi (pos (2 ^ bits)) }
    else unsigned_range bits
