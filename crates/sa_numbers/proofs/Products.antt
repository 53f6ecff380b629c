-- Products: order by one factor, and the corners of two rows of factors.
use Rattle.std.proofs.Common.{ℕ, zero, suc, ℤ, pos, negsuc, ◌≤ℤ◌, ◌*ℤ◌, arith}
use Rattle.std.proofs.Math.IntN.{*ℤ_comm, zero-*ℤ, suc_ℤ-*ℤ, *ℤ-negsuc}
use Rattle.std.proofs.lemmas.Int.{ints, clamps}
use Rattle.sa_numbers.specs.Corners.{least_of_four, greatest_of_four}
use Rattle.sa_numbers.proofs.Corners.{Between, between_corners}

scaled : (k : ℕ) (x y : ℤ) → x ≤ℤ y → (pos k *ℤ x) ≤ℤ (pos k *ℤ y)
scaled zero x y h = omega (arith, ints, zero-*ℤ x, zero-*ℤ y)
scaled (suc k) x y h = omega (arith, ints, suc_ℤ-*ℤ (pos k) x, suc_ℤ-*ℤ (pos k) y, scaled k x y h)

-- by a factor that is not negative, and by one that is not positive
pub times_up : (x y k : ℤ) → pos 0 ≤ℤ k → x ≤ℤ y → (x *ℤ k) ≤ℤ (y *ℤ k)
times_up x y (pos k) n h = omega (arith, ints, *ℤ_comm x (pos k), *ℤ_comm y (pos k), scaled k x y h)
times_up x y (negsuc k) n h = absurd (omega (arith, ints))

pub times_down : (x y k : ℤ) → k ≤ℤ pos 0 → x ≤ℤ y → (y *ℤ k) ≤ℤ (x *ℤ k)
times_down x y (pos zero) n h = omega (arith, ints, *ℤ_comm x (pos zero), *ℤ_comm y (pos zero), zero-*ℤ x, zero-*ℤ y)
times_down x y (pos (suc k)) n h = absurd (omega (arith, ints))
times_down x y (negsuc k) n h = omega (arith, ints, *ℤ-negsuc x k, *ℤ-negsuc y k, *ℤ_comm x (pos (suc k)), *ℤ_comm y (pos (suc k)), scaled (suc k) x y h)

-- a factor between two numbers, times one number
between_times : (l h x k : ℤ) → l ≤ℤ x → x ≤ℤ h → Between (l *ℤ k) (h *ℤ k) (x *ℤ k)
between_times l h x (pos k) p q =
    let up : pos 0 ≤ℤ pos k = omega (arith, ints) in
    let below = times_up l x (pos k) up p in
    let above = times_up x h (pos k) up q in
    record { low = omega (arith, ints, clamps); high = omega (arith, ints, clamps) }
between_times l h x (negsuc k) p q =
    let down : negsuc k ≤ℤ pos 0 = omega (arith, ints) in
    let above = times_down l x (negsuc k) down p in
    let below = times_down x h (negsuc k) down q in
    record { low = omega (arith, ints, clamps); high = omega (arith, ints, clamps) }

times_between : (k l h y : ℤ) → l ≤ℤ y → y ≤ℤ h → Between (k *ℤ l) (k *ℤ h) (k *ℤ y)
times_between k l h y p q = rw (*ℤ_comm k l, *ℤ_comm k h, *ℤ_comm k y) (between_times l h y k p q)

-- a product of a factor from a to b and one from c to d
pub product-corners : (a b c d x y : ℤ) → a ≤ℤ x → x ≤ℤ b → c ≤ℤ y → y ≤ℤ d →
    (least_of_four (a *ℤ c) (a *ℤ d) (b *ℤ c) (b *ℤ d) ≤ℤ (x *ℤ y)) × ((x *ℤ y) ≤ℤ greatest_of_four (a *ℤ c) (a *ℤ d) (b *ℤ c) (b *ℤ d))
product-corners a b c d x y ax xb cy yd =
    between_corners (x *ℤ y) (a *ℤ y) (b *ℤ y) (a *ℤ c) (a *ℤ d) (b *ℤ c) (b *ℤ d) (between_times a b x y ax xb) (times_between a c d y cy yd) (times_between b c d y cy yd)
