-- The results of `&`, `|` and `^` lie in their rows.
use Rattle.std.proofs.Common.{◌≡◌, ℕ, ◌+◌, ◌-◌, ◌*◌, ◌^◌, ◌<◌, ◌≤◌, ℤ, pos, negsuc, ◌≤ℤ◌, ◌<ℤ◌, unsigned_abs, true, false, ◌&&◌, cond, inl, inr, arith, refl, sym, ap, ap₂}
use Rattle.std.specs.Int.{w128, int_max, int_min, int_bit_and, int_bit_or, int_bit_xor}
use Rattle.std.proofs.lemmas.Bool.{cases_lt}
use Rattle.std.proofs.lemmas.Int.{ints, clamps}
use Rattle.std.proofs.lemmas.Nat.{pow_pos}
use Rattle.sa_interval.specs.Span.{Span, Within, IsPart, IsBound, IsInterval, Holds, cut}
use Rattle.sa_interval.specs.Rows.{single, are_single}
use Rattle.sa_interval.specs.Types.{IsTypeRange}
use Rattle.sa_interval.specs.BitRows.{not_negative, mask_of_highs, Ands, Ors, Xors, and_of, or_of, xor_of}
use Rattle.sa_interval.proofs.Least.{are_points, both_true, within_lo}
use Rattle.sa_interval.proofs.TypeRanges.{KeepsBits, type_keeps, type_small, type_bound}
use Rattle.sa_numbers.specs.Masks.{least_mask}
use Rattle.sa_numbers.proofs.Bits.{and-fits, or-fits, xor-fits, and-below_first, and-below_second, or-within, xor-within}
use Rattle.sa_numbers.proofs.Cut.{cut-inside}
use Rattle.sa_numbers.proofs.Masks.{least_mask_bits}
use Rattle.sa_numbers.proofs.Order.{le_from, ≤ℤ_trans}
use Rattle.sa_numbers.proofs.Shifts.{powers_rise}

pub and_keeps : KeepsBits (int_bit_and w128)
and_keeps = record {
  signed = and-fits;
  unsigned = λ x y k small p q a b.
      let most = powers_rise k 127 small in
      let r = and-below_first x y p (omega (arith, ints)) in
      (r.0, omega (arith, ints, r.1));
}

pub or_keeps : KeepsBits (int_bit_or w128)
or_keeps = record {
  signed = or-fits;
  unsigned = λ x y k small p q a b. let r = or-within x y k small p q a b in (omega (arith, ints, r.0), r.2);
}

pub xor_keeps : KeepsBits (int_bit_xor w128)
xor_keeps = record { signed = xor-fits; unsigned = xor-within }

in_full : (a full : Span) (x : ℤ) → IsPart a full → Within a x → Within full x
in_full a full x p w = record { above = omega (arith, ints, p.above, w.above); below = omega (arith, ints, p.below, w.below) }

-- the result of two ends may be a bound
pub ends_bound : (op : ℤ → ℤ → ℤ) → KeepsBits op → (a b full : Span) → IsTypeRange full → IsPart a full → IsPart b full → a.lo ≤ℤ a.hi → b.lo ≤ℤ b.hi → IsBound (op a.lo b.lo)
ends_bound op keeps a b full t p q i j =
    type_bound full (op a.lo b.lo) t (type_keeps op keeps full a.lo b.lo t (in_full a full a.lo p (within_lo a i)) (in_full b full b.lo q (within_lo b j)))

-- a span whose low is not negative
pub high_up : (a : Span) → true ≡ not_negative a → a.lo ≤ℤ a.hi → pos 0 ≤ℤ a.hi
high_up a e order = ≤ℤ_trans (pos 0) a.lo a.hi (le_from (pos 0) a.lo (sym e)) order

-- what a row must hold, where the result is not cut
row_holds : (op : ℤ → ℤ → ℤ) → KeepsBits op → (a b full row : Span) → IsTypeRange full → IsPart a full → IsPart b full →
    ((x y : ℤ) → Within a x → Within b y → Within row (op x y)) → (z x y : ℤ) → Within a x → Within b y → z ≡ op x y → Within row (cut z)
row_holds op keeps a b full row t p q holds z x y in_a in_b is =
    let inside = type_keeps op keeps full x y t (in_full a full x p in_a) (in_full b full y q in_b) in
    let bound = type_bound full (op x y) t inside in
    let same : cut z ≡ op x y = rw is (cut-inside (op x y) bound.low bound.high) in
    rw same (holds x y in_a in_b)

point : (z : ℤ) → Within (single z) z
point z = record { above = omega (arith, ints); below = omega (arith, ints) }

-- numbers that are not negative are below 2 ^ 127 in the range of a type
below_top : (full : Span) (x : ℤ) → IsTypeRange full → Within full x → x <ℤ pos (2 ^ 127)
below_top full x t w = let small = type_small full t in omega (arith, ints, small.1, w.below)

below_power : (x high : ℤ) (n : ℕ) → x ≤ℤ high → high <ℤ pos (2 ^ n) → x <ℤ pos (2 ^ n)
below_power x high n h k = omega (arith, ints)

up_to_mask : (r : ℤ) (n : ℕ) → r <ℤ pos (2 ^ n) → r ≤ℤ pos (2 ^ n - 1)
up_to_mask r n h = let some = pow_pos n in omega (arith, ints)

greatest_low : (k l x y r : ℤ) → k ≤ℤ x → l ≤ℤ y → x ≤ℤ r → y ≤ℤ r → int_max k l ≤ℤ r
greatest_low k l x y r a b c d = omega (arith, ints, clamps)

-- the cases of the row of `&`, for one result r
and_cases : (r exact : ℤ) (a b full : Span) → (are_single a b ≡ true → r ≡ exact) → (pos 0 ≤ℤ a.lo → (pos 0 ≤ℤ r) × (r ≤ℤ a.hi)) → (pos 0 ≤ℤ b.lo → (pos 0 ≤ℤ r) × (r ≤ℤ b.hi)) → Within full r →
    Within (cond (are_single a b) (single exact) (cond (not_negative a && not_negative b) (record { lo = pos 0; hi = int_min a.hi b.hi }) (cond (not_negative a) (record { lo = pos 0; hi = a.hi }) (cond (not_negative b) (record { lo = pos 0; hi = b.hi }) full)))) r
and_cases r exact a b full points first second inside =
    elim (are_single a b) as (λ s. are_single a b ≡ s → Within (cond s (single exact) (cond (not_negative a && not_negative b) (record { lo = pos 0; hi = int_min a.hi b.hi }) (cond (not_negative a) (record { lo = pos 0; hi = a.hi }) (cond (not_negative b) (record { lo = pos 0; hi = b.hi }) full)))) r) [
      | true ↦ λ e. rw (points e) (point exact)
      | false ↦ λ _. elim (not_negative a) as (λ u. not_negative a ≡ u → Within (cond (u && not_negative b) (record { lo = pos 0; hi = int_min a.hi b.hi }) (cond u (record { lo = pos 0; hi = a.hi }) (cond (not_negative b) (record { lo = pos 0; hi = b.hi }) full))) r) [
        | true ↦ λ up. elim (not_negative b) as (λ v. not_negative b ≡ v → Within (cond v (record { lo = pos 0; hi = int_min a.hi b.hi }) (record { lo = pos 0; hi = a.hi })) r) [
          | true ↦ λ also.
              let f = first (le_from (pos 0) a.lo up) in
              let g = second (le_from (pos 0) b.lo also) in
              record { above = f.0; below = omega (arith, ints, clamps, f.1, g.1) }
          | false ↦ λ _. let f = first (le_from (pos 0) a.lo up) in record { above = f.0; below = f.1 }
        ] refl
        | false ↦ λ _. elim (not_negative b) as (λ v. not_negative b ≡ v → Within (cond v (record { lo = pos 0; hi = b.hi }) full) r) [
          | true ↦ λ also. let g = second (le_from (pos 0) b.lo also) in record { above = g.0; below = g.1 }
          | false ↦ λ _. inside
        ] refl
      ] refl
    ] refl

pub ands_hold : (a b full : Span) → IsTypeRange full → IsPart a full → IsPart b full → Holds (Ands a b) (and_of a b full)
ands_hold a b full t p q z (x, y, in_a, in_b, is) =
    row_holds (int_bit_and w128) and_keeps a b full (and_of a b full) t p q
    (λ x y in_a in_b.
    let x_full = in_full a full x p in_a in
    let y_full = in_full b full y q in_b in
    and_cases (int_bit_and w128 x y) (int_bit_and w128 a.lo b.lo) a b full
    (λ e. let same = are_points a b x y e in_a in_b in ap₂ (int_bit_and w128) same.0 same.1)
    (λ up. let r = and-below_first x y (≤ℤ_trans _ _ _ up in_a.above) (below_top full x t x_full) in (r.0, ≤ℤ_trans _ _ _ r.1 in_a.below))
    (λ up. let r = and-below_second x y (≤ℤ_trans _ _ _ up in_b.above) (below_top full y t y_full) in (r.0, ≤ℤ_trans _ _ _ r.1 in_b.below))
    (type_keeps (int_bit_and w128) and_keeps full x y t x_full y_full))
    z x y in_a in_b is

-- the cases of the rows of `|` and `^`, for one result r
or_cases : (r exact low high : ℤ) (a b full : Span) → (are_single a b ≡ true → r ≡ exact) → (pos 0 ≤ℤ a.lo → pos 0 ≤ℤ b.lo → (low ≤ℤ r) × (r ≤ℤ high)) → Within full r →
    Within (cond (are_single a b) (single exact) (cond (not_negative a && not_negative b) (record { lo = low; hi = high }) full)) r
or_cases r exact low high a b full points both inside =
    elim (are_single a b) as (λ s. are_single a b ≡ s → Within (cond s (single exact) (cond (not_negative a && not_negative b) (record { lo = low; hi = high }) full)) r) [
      | true ↦ λ e. rw (points e) (point exact)
      | false ↦ λ _. elim (not_negative a) as (λ u. not_negative a ≡ u → Within (cond (u && not_negative b) (record { lo = low; hi = high }) full) r) [
        | true ↦ λ up. elim (not_negative b) as (λ v. not_negative b ≡ v → Within (cond v (record { lo = low; hi = high }) full) r) [
          | true ↦ λ also. let f = both (le_from (pos 0) a.lo up) (le_from (pos 0) b.lo also) in record { above = f.0; below = f.1 }
          | false ↦ λ _. inside
        ] refl
        | false ↦ λ _. inside
      ] refl
    ] refl

-- a bound that is not negative, as a number
pub magnitude : (z : ℤ) → pos 0 ≤ℤ z → pos (unsigned_abs z) ≡ z
magnitude (pos n) h = refl
magnitude (negsuc n) h = absurd (omega (arith, ints))

-- a number below 2 ^ 64 has a mask of at most 64 bits
mask_bits : (m : ℕ) → m < 2 ^ 64 → (n : ℕ) × (least_mask m ≡ 2 ^ n - 1) × (m < 2 ^ n) × (n ≤ 127)
mask_bits m h =
    let bits = least_mask_bits m (omega arith) in
    let n = bits.0 in
    let near : 2 ^ n ≤ 2 * m + 1 = bits.3 in (
      n,
      bits.1,
      bits.2,
      elim (cases_lt 64 n) [
        | inl long ↦ let rise = powers_rise 65 n (omega arith) in absurd (omega arith)
        | inr short ↦ omega arith
      ],
    )

-- both highs are below a power of two, and the mask is the number before it
pub mask_holds : (a b full : Span) → IsTypeRange full → IsPart a full → IsPart b full → pos 0 ≤ℤ a.hi →
    (n : ℕ) × (mask_of_highs a b ≡ pos (2 ^ n - 1)) × (n ≤ 127) × (a.hi <ℤ pos (2 ^ n)) × (b.hi <ℤ pos (2 ^ n))
mask_holds a b full t p q up =
    let high : ℤ = int_max a.hi b.hi in
    let is : pos (unsigned_abs high) ≡ high = magnitude high (omega (arith, ints, clamps)) in
    let small = type_small full t in
    let bits = mask_bits (unsigned_abs high) (omega (arith, ints, clamps, is, small.1, p.below, q.below)) in
    (bits.0, ap pos bits.1, bits.3, omega (arith, ints, clamps, is, bits.2), omega (arith, ints, clamps, is, bits.2))

pub ors_hold : (a b full : Span) → IsTypeRange full → IsPart a full → IsPart b full → Holds (Ors a b) (or_of a b full)
ors_hold a b full t p q z (x, y, in_a, in_b, is) =
    row_holds (int_bit_or w128) or_keeps a b full (or_of a b full) t p q
    (λ x y in_a in_b.
    or_cases (int_bit_or w128 x y) (int_bit_or w128 a.lo b.lo) (int_max a.lo b.lo) (mask_of_highs a b) a b full
    (λ e. let same = are_points a b x y e in_a in_b in ap₂ (int_bit_or w128) same.0 same.1)
    (λ up also.
    let mask = mask_holds a b full t p q (≤ℤ_trans _ _ _ up (≤ℤ_trans _ _ _ in_a.above in_a.below)) in
    let r = or-within x y mask.0 mask.2 (≤ℤ_trans _ _ _ up in_a.above) (≤ℤ_trans _ _ _ also in_b.above) (below_power x a.hi mask.0 in_a.below mask.3) (below_power y b.hi mask.0 in_b.below mask.4) in
    (greatest_low a.lo b.lo x y _ in_a.above in_b.above r.0 r.1, rw mask.1 (up_to_mask _ mask.0 r.2)))
    (type_keeps (int_bit_or w128) or_keeps full x y t (in_full a full x p in_a) (in_full b full y q in_b)))
    z x y in_a in_b is

pub xors_hold : (a b full : Span) → IsTypeRange full → IsPart a full → IsPart b full → Holds (Xors a b) (xor_of a b full)
xors_hold a b full t p q z (x, y, in_a, in_b, is) =
    row_holds (int_bit_xor w128) xor_keeps a b full (xor_of a b full) t p q
    (λ x y in_a in_b.
    or_cases (int_bit_xor w128 x y) (int_bit_xor w128 a.lo b.lo) (pos 0) (mask_of_highs a b) a b full
    (λ e. let same = are_points a b x y e in_a in_b in ap₂ (int_bit_xor w128) same.0 same.1)
    (λ up also.
    let mask = mask_holds a b full t p q (≤ℤ_trans _ _ _ up (≤ℤ_trans _ _ _ in_a.above in_a.below)) in
    let r = xor-within x y mask.0 mask.2 (≤ℤ_trans _ _ _ up in_a.above) (≤ℤ_trans _ _ _ also in_b.above) (below_power x a.hi mask.0 in_a.below mask.3) (below_power y b.hi mask.0 in_b.below mask.4) in
    (r.0, rw mask.1 (up_to_mask _ mask.0 r.1)))
    (type_keeps (int_bit_xor w128) xor_keeps full x y t (in_full a full x p in_a) (in_full b full y q in_b)))
    z x y in_a in_b is

-- the rows of operands that aren't single and have no negative number
pub and_row_both : (a b full : Span) → are_single a b ≡ false → true ≡ not_negative a → true ≡ not_negative b → and_of a b full ≡ record { lo = pos 0; hi = int_min a.hi b.hi }
and_row_both a b full p q r = rw (p, ← q, ← r) refl

pub or_row_both : (a b full : Span) → are_single a b ≡ false → true ≡ (not_negative a && not_negative b) → or_of a b full ≡ record { lo = int_max a.lo b.lo; hi = mask_of_highs a b }
or_row_both a b full p q = rw (p, ← q) refl

pub xor_row_both : (a b full : Span) → are_single a b ≡ false → true ≡ (not_negative a && not_negative b) → xor_of a b full ≡ record { lo = pos 0; hi = mask_of_highs a b }
xor_row_both a b full p q = rw (p, ← q) refl

both_up : (a b : Span) → true ≡ (not_negative a && not_negative b) → (pos 0 ≤ℤ a.lo) × (pos 0 ≤ℤ b.lo)
both_up a b e =
    let both = both_true (not_negative a) (not_negative b) (sym e) in
    (le_from (pos 0) a.lo both.0, le_from (pos 0) b.lo both.1)

pub first_high_up : (a b : Span) → true ≡ (not_negative a && not_negative b) → a.lo ≤ℤ a.hi → pos 0 ≤ℤ a.hi
first_high_up a b e order = let up = both_up a b e in omega (arith, ints, up.0)

-- from the greater low to a number above both highs
pub or_row_is_interval : (a b : Span) (high : ℤ) → true ≡ (not_negative a && not_negative b) → a.lo ≤ℤ a.hi → b.lo ≤ℤ b.hi → a.hi ≤ℤ high → b.hi ≤ℤ high → high <ℤ pos (2 ^ 64) → IsInterval (record { lo = int_max a.lo b.lo; hi = high })
or_row_is_interval a b high e i j first second below =
    let up = both_up a b e in
    record { ordered = omega (arith, ints, clamps); low = omega (arith, ints, clamps, up.0); high = omega (arith, ints) }
