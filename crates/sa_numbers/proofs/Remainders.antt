-- Remainders with the dividend's sign: they are no greater in size than the dividend, and smaller than the divisor.
use Rattle.std.proofs.Common.{◌≡◌, zero, suc, ℤ, pos, negsuc, neg_ℤ, ◌+ℤ◌, ◌≤ℤ◌, int_rem, unsigned_abs, arith, refl}
use Rattle.std.proofs.Math.Nat.{mod-le}
use Rattle.std.proofs.lemmas.Int.{ints}
use Rattle.std.proofs.lemmas.Nat.{mod_below}

pub remainder_of_above : (x y : ℤ) → pos 0 ≤ℤ x → (pos 0 ≤ℤ int_rem x y) × (int_rem x y ≤ℤ x)
remainder_of_above (pos x) y h = let le = mod-le x (unsigned_abs y) in (omega (arith, ints), omega (arith, ints))
remainder_of_above (negsuc x) y h = absurd (omega (arith, ints))

pub remainder_of_below : (x y : ℤ) → x ≤ℤ pos 0 → (x ≤ℤ int_rem x y) × (int_rem x y ≤ℤ pos 0)
remainder_of_below (pos x) y h = let le = mod-le x (unsigned_abs y) in (omega (arith, ints), omega (arith, ints))
remainder_of_below (negsuc x) y h = let le = mod-le (suc x) (unsigned_abs y) in (omega (arith, ints), omega (arith, ints))

-- m is at least the divisor's size less 1
pub remainder-size : (x y m : ℤ) → (y ≡ pos 0 → ⊥) → y ≤ℤ (m +ℤ pos 1) → neg_ℤ y ≤ℤ (m +ℤ pos 1) → (neg_ℤ m ≤ℤ int_rem x y) × (int_rem x y ≤ℤ m)
remainder-size x (pos zero) m nonzero h k = absurd (nonzero refl)
remainder-size (pos x) (pos (suc y)) m nonzero h k = let lt = mod_below x (suc y) (omega arith) in (omega (arith, ints), omega (arith, ints))
remainder-size (pos x) (negsuc y) m nonzero h k = let lt = mod_below x (suc y) (omega arith) in (omega (arith, ints), omega (arith, ints))
remainder-size (negsuc x) (pos (suc y)) m nonzero h k = let lt = mod_below (suc x) (suc y) (omega arith) in (omega (arith, ints), omega (arith, ints))
remainder-size (negsuc x) (negsuc y) m nonzero h k = let lt = mod_below (suc x) (suc y) (omega arith) in (omega (arith, ints), omega (arith, ints))
