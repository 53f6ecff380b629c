-- Sizes of whole numbers: of sums, halves and negations.
use Rattle.std.proofs.Common.{◌≡◌, ℕ, zero, suc, ◌+◌, ◌≤◌, ℤ, pos, negsuc, ◌+ℤ◌, neg_ℤ, ◌≤ℤ◌, unsigned_abs, arith, refl}
use Rattle.std.specs.Int.{int_shr}
use Rattle.std.proofs.lemmas.Int.{ints}

size_high : (z : ℤ) (n : ℕ) → unsigned_abs z ≤ n → z ≤ℤ pos n
size_high (pos a) n h = omega (arith, ints)
size_high (negsuc a) n h = omega (arith, ints)

size_low : (z : ℤ) (n : ℕ) → unsigned_abs z ≤ n → neg_ℤ (pos n) ≤ℤ z
size_low (pos a) n h = omega (arith, ints)
size_low (negsuc a) n h = omega (arith, ints)

size_from : (z : ℤ) (n : ℕ) → neg_ℤ (pos n) ≤ℤ z → z ≤ℤ pos n → unsigned_abs z ≤ n
size_from (pos a) n h k = omega (arith, ints)
size_from (negsuc a) n h k = omega (arith, ints)

pub size_of_sum : (x y : ℤ) (m n : ℕ) → unsigned_abs x ≤ m → unsigned_abs y ≤ n → unsigned_abs (x +ℤ y) ≤ m + n
size_of_sum x y m n p q =
    let a = size_low x m p in
    let b = size_high x m p in
    let c = size_low y n q in
    let d = size_high y n q in
    size_from (x +ℤ y) (m + n) (omega (arith, ints)) (omega (arith, ints))

pub size-half : (z : ℤ) → unsigned_abs (int_shr z 1) ≤ unsigned_abs z
size-half (pos n) = omega arith
size-half (negsuc n) = omega arith

pub size-negated : (z : ℤ) → unsigned_abs (neg_ℤ z) ≡ unsigned_abs z
size-negated (pos zero) = refl
size-negated (pos (suc n)) = refl
size-negated (negsuc n) = refl
