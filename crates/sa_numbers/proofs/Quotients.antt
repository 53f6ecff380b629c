-- Quotients that truncate: order by dividend and divisor, and the corners of two rows.
use Rattle.std.proofs.Common.{◌≡◌, ℕ, zero, suc, ◌/◌, ◌<◌, ◌≤◌, ℤ, pos, negsuc, neg_ℤ, ◌≤ℤ◌, ◌<ℤ◌, int_div, arith, refl}
use Rattle.std.proofs.Math.Nat.{mul-le-mul_left, div-mul-le_self, div-le_self}
use Rattle.std.proofs.lemmas.Int.{ints, clamps}
use Rattle.std.proofs.lemmas.Nat.{le-div}
use Rattle.sa_numbers.specs.Corners.{least_of_four, greatest_of_four}
use Rattle.sa_numbers.proofs.Corners.{Between, between_corners}

-- on numbers that are not negative
pub div-le-div_left : (x m y : ℕ) → 0 < y → x ≤ m → x / y ≤ m / y
div-le-div_left x m y p h = le-div (x / y) m y p (omega (arith, div-mul-le_self x y))

pub div-le-div_right : (x y z : ℕ) → 0 < y → y ≤ z → x / z ≤ x / y
div-le-div_right x y z p h = le-div (x / z) x y p (omega (arith, div-mul-le_self x z, mul-le-mul_left (x / z) h))

-- by one divisor
quotient_rises : (x m : ℤ) (n : ℕ) → x ≤ℤ m → int_div x (pos (suc n)) ≤ℤ int_div m (pos (suc n))
quotient_rises (pos x) (pos m) n h = let le = div-le-div_left x m (suc n) (omega arith) (omega (arith, ints)) in omega (arith, ints)
quotient_rises (pos x) (negsuc m) n h = absurd (omega (arith, ints))
quotient_rises (negsuc x) (pos m) n h = omega (arith, ints)
quotient_rises (negsuc x) (negsuc m) n h = let le = div-le-div_left (suc m) (suc x) (suc n) (omega arith) (omega (arith, ints)) in omega (arith, ints)

quotient_falls : (x m : ℤ) (n : ℕ) → x ≤ℤ m → int_div m (negsuc n) ≤ℤ int_div x (negsuc n)
quotient_falls (pos x) (pos m) n h = let le = div-le-div_left x m (suc n) (omega arith) (omega (arith, ints)) in omega (arith, ints)
quotient_falls (pos x) (negsuc m) n h = absurd (omega (arith, ints))
quotient_falls (negsuc x) (pos m) n h = omega (arith, ints)
quotient_falls (negsuc x) (negsuc m) n h = let le = div-le-div_left (suc m) (suc x) (suc n) (omega arith) (omega (arith, ints)) in omega (arith, ints)

-- a dividend between two numbers, by one divisor that is not 0
between_dividends : (a b x y : ℤ) → (y ≡ pos 0 → ⊥) → a ≤ℤ x → x ≤ℤ b → Between (int_div a y) (int_div b y) (int_div x y)
between_dividends a b x (pos zero) nonzero p q = absurd (nonzero refl)
between_dividends a b x (pos (suc n)) nonzero p q =
    let low = quotient_rises a x n p in
    let high = quotient_rises x b n q in
    record { low = omega (arith, ints, clamps); high = omega (arith, ints, clamps) }
between_dividends a b x (negsuc n) nonzero p q =
    let high = quotient_falls a x n p in
    let low = quotient_falls x b n q in
    record { low = omega (arith, ints, clamps); high = omega (arith, ints, clamps) }

-- one dividend by a divisor between two of one sign
between_divisors_above : (x : ℤ) (c y d : ℕ) → 0 < c → c ≤ y → y ≤ d → Between (int_div x (pos c)) (int_div x (pos d)) (int_div x (pos y))
between_divisors_above (pos x) c y d p h k =
    let most = div-le-div_right x c y p h in
    let least = div-le-div_right x y d (omega arith) k in
    record { low = omega (arith, ints, clamps); high = omega (arith, ints, clamps) }
between_divisors_above (negsuc x) c y d p h k =
    let most = div-le-div_right (suc x) c y p h in
    let least = div-le-div_right (suc x) y d (omega arith) k in
    record { low = omega (arith, ints, clamps); high = omega (arith, ints, clamps) }

between_divisors_below : (x : ℤ) (c y d : ℕ) → y ≤ c → d ≤ y → Between (int_div x (negsuc c)) (int_div x (negsuc d)) (int_div x (negsuc y))
between_divisors_below (pos x) c y d h k =
    let most = div-le-div_right x (suc d) (suc y) (omega arith) (omega arith) in
    let least = div-le-div_right x (suc y) (suc c) (omega arith) (omega arith) in
    record { low = omega (arith, ints, clamps); high = omega (arith, ints, clamps) }
between_divisors_below (negsuc x) c y d h k =
    let most = div-le-div_right (suc x) (suc d) (suc y) (omega arith) (omega arith) in
    let least = div-le-div_right (suc x) (suc y) (suc c) (omega arith) (omega arith) in
    record { low = omega (arith, ints, clamps); high = omega (arith, ints, clamps) }

-- a quotient of a dividend from a to b and a divisor from c to d, where all divisors are above 0
pub quotient-corners_above : (a b c d x y : ℤ) → pos 0 <ℤ c → a ≤ℤ x → x ≤ℤ b → c ≤ℤ y → y ≤ℤ d →
    (least_of_four (int_div a c) (int_div a d) (int_div b c) (int_div b d) ≤ℤ int_div x y) × (int_div x y ≤ℤ greatest_of_four (int_div a c) (int_div a d) (int_div b c) (int_div b d))
quotient-corners_above a b (pos c) (pos d) x (pos y) up ax xb cy yd =
    let some : 0 < c = omega (arith, ints) in
    between_corners (int_div x (pos y)) (int_div a (pos y)) (int_div b (pos y)) _ _ _ _
    (between_dividends a b x (pos y) (λ e. omega (arith, ints)) ax xb)
    (between_divisors_above a c y d some (omega (arith, ints)) (omega (arith, ints)))
    (between_divisors_above b c y d some (omega (arith, ints)) (omega (arith, ints)))
quotient-corners_above a b (pos c) (pos d) x (negsuc y) up ax xb cy yd = absurd (omega (arith, ints))
quotient-corners_above a b (pos c) (negsuc d) x (pos y) up ax xb cy yd = absurd (omega (arith, ints))
quotient-corners_above a b (pos c) (negsuc d) x (negsuc y) up ax xb cy yd = absurd (omega (arith, ints))
quotient-corners_above a b (negsuc c) d x y up ax xb cy yd = absurd (omega (arith, ints))

-- the same where all divisors are below 0
pub quotient-corners_below : (a b c d x y : ℤ) → d <ℤ pos 0 → a ≤ℤ x → x ≤ℤ b → c ≤ℤ y → y ≤ℤ d →
    (least_of_four (int_div a c) (int_div a d) (int_div b c) (int_div b d) ≤ℤ int_div x y) × (int_div x y ≤ℤ greatest_of_four (int_div a c) (int_div a d) (int_div b c) (int_div b d))
quotient-corners_below a b (negsuc c) (negsuc d) x (negsuc y) down ax xb cy yd =
    between_corners (int_div x (negsuc y)) (int_div a (negsuc y)) (int_div b (negsuc y)) _ _ _ _
    (between_dividends a b x (negsuc y) (λ e. omega (arith, ints)) ax xb)
    (between_divisors_below a c y d (omega (arith, ints)) (omega (arith, ints)))
    (between_divisors_below b c y d (omega (arith, ints)) (omega (arith, ints)))
quotient-corners_below a b (negsuc c) (negsuc d) x (pos y) down ax xb cy yd = absurd (omega (arith, ints))
quotient-corners_below a b (pos c) (negsuc d) x y down ax xb cy yd = absurd (omega (arith, ints))
quotient-corners_below a b c (pos d) x y down ax xb cy yd = absurd (omega (arith, ints))

-- a quotient is no greater in size than its dividend
pub quotient-size : (x y : ℤ) (m : ℕ) → neg_ℤ (pos m) ≤ℤ x → x ≤ℤ pos m → (neg_ℤ (pos m) ≤ℤ int_div x y) × (int_div x y ≤ℤ pos m)
quotient-size (pos x) (pos y) m h k = let le = div-le_self x y in (omega (arith, ints), omega (arith, ints))
quotient-size (pos x) (negsuc y) m h k = let le = div-le_self x (suc y) in (omega (arith, ints), omega (arith, ints))
quotient-size (negsuc x) (pos y) m h k = let le = div-le_self (suc x) y in (omega (arith, ints), omega (arith, ints))
quotient-size (negsuc x) (negsuc y) m h k = let le = div-le_self (suc x) (suc y) in (omega (arith, ints), omega (arith, ints))
