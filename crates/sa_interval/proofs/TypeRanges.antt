-- What the range of a type is closed under.
use Rattle.std.proofs.Common.{◌≡◌, ℕ, ◌+◌, ◌-◌, ◌^◌, ◌<◌, ◌≤◌, ℤ, pos, neg_ℤ, ◌≤ℤ◌, ◌<ℤ◌, inl, inr, IsTrue, arith}
use Rattle.std.proofs.lemmas.Bool.Decides.{nat_tests}
use Rattle.std.proofs.lemmas.Int.{ints}
use Rattle.std.proofs.lemmas.Nat.{pow_pos}
use Rattle.sa_interval.specs.Span.{Span, Within, IsPart, IsBound}
use Rattle.sa_interval.specs.Types.{is_width, signed_range, unsigned_range, IsTypeRange}
use Rattle.sa_numbers.proofs.Bits.{FitsBits}
use Rattle.sa_numbers.proofs.Shifts.{powers_rise}

pub width-range : (bits : ℕ) → IsTrue (is_width bits) → (1 ≤ bits) × (bits ≤ 64)
width-range bits h = (grind (arith, nat_tests), grind (arith, nat_tests))

-- an operation that keeps k bits and a sign, and k bits without one
pub record KeepsBits (op : ℤ → ℤ → ℤ) : Type 0 where
  pub signed : (j k : ℕ) (x y : ℤ) → j + k ≡ 128 → 0 < j → FitsBits k x → FitsBits k y → FitsBits k (op x y)
  pub unsigned : (x y : ℤ) (k : ℕ) → k ≤ 127 → pos 0 ≤ℤ x → pos 0 ≤ℤ y → x <ℤ pos (2 ^ k) → y <ℤ pos (2 ^ k) → (pos 0 ≤ℤ op x y) × (op x y <ℤ pos (2 ^ k))

fits_from : (k : ℕ) (z : ℤ) → Within (record { lo = neg_ℤ (pos (2 ^ k)); hi = pos (2 ^ k - 1) }) z → FitsBits k z
fits_from k z w = let some = pow_pos k in record { low = w.above; high = omega (arith, ints, w.below) }

within_from : (k : ℕ) (z : ℤ) → FitsBits k z → Within (record { lo = neg_ℤ (pos (2 ^ k)); hi = pos (2 ^ k - 1) }) z
within_from k z f = let some = pow_pos k in record { above = f.low; below = omega (arith, ints, f.high) }

signed_keeps : (op : ℤ → ℤ → ℤ) → KeepsBits op → (bits : ℕ) (x y : ℤ) → bits ≤ 64 → Within (signed_range bits) x → Within (signed_range bits) y → Within (signed_range bits) (op x y)
signed_keeps op keeps bits x y small p q =
    let k : ℕ = bits - 1 in
    within_from k (op x y) (keeps.signed (128 - k) k x y (omega arith) (omega arith) (fits_from k x p) (fits_from k y q))

unsigned_keeps : (op : ℤ → ℤ → ℤ) → KeepsBits op → (bits : ℕ) (x y : ℤ) → bits ≤ 64 → Within (unsigned_range bits) x → Within (unsigned_range bits) y → Within (unsigned_range bits) (op x y)
unsigned_keeps op keeps bits x y small p q =
    let some = pow_pos bits in
    let r = keeps.unsigned x y bits (omega arith) p.above q.above (omega (arith, ints, p.below)) (omega (arith, ints, q.below)) in
    record { above = r.0; below = omega (arith, ints, r.1) }

pub type_keeps : (op : ℤ → ℤ → ℤ) → KeepsBits op → (full : Span) (x y : ℤ) → IsTypeRange full → Within full x → Within full y → Within full (op x y)
type_keeps op keeps full x y (bits, width, range) p q =
    let small = (width-range bits width).1 in
    elim range [
      | inl e ↦ rw e (signed_keeps op keeps bits x y small (rw (← e) p) (rw (← e) q))
      | inr e ↦ rw e (unsigned_keeps op keeps bits x y small (rw (← e) p) (rw (← e) q))
    ]

-- the range of a type is within 64 bits, and signed exactly where its low is negative
pub type_small : (full : Span) → IsTypeRange full → (neg_ℤ (pos (2 ^ 63)) ≤ℤ full.lo) × (full.hi ≤ℤ pos (2 ^ 64 - 1))
type_small full (bits, width, range) =
    let small = (width-range bits width).1 in
    let half = powers_rise (bits - 1) 63 (omega arith) in
    let whole = powers_rise bits 64 small in
    elim range [
      | inl e ↦ rw e (omega (arith, ints), omega (arith, ints))
      | inr e ↦ rw e (omega (arith, ints), omega (arith, ints))
    ]

pub type_bound : (full : Span) (z : ℤ) → IsTypeRange full → Within full z → IsBound z
type_bound full z t w =
    let small = type_small full t in
    record { low = omega (arith, ints, small.0, w.above); high = omega (arith, ints, small.1, w.below) }

pub part_small : (a full : Span) → IsTypeRange full → IsPart a full → (neg_ℤ (pos (2 ^ 63)) ≤ℤ a.lo) × (a.hi ≤ℤ pos (2 ^ 64 - 1))
part_small a full t p =
    let small = type_small full t in
    (omega (arith, ints, small.0, p.above), omega (arith, ints, small.1, p.below))
