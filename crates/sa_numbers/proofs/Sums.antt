-- Sums of whole numbers, beyond what `omega` reads at once.
use Rattle.std.proofs.Common.{◌≡◌, ℤ, pos, ◌+ℤ◌, ◌≤ℤ◌, arith}
use Rattle.std.proofs.lemmas.Int.{ints}

pub add_mono : (x y z w : ℤ) → x ≤ℤ y → z ≤ℤ w → (x +ℤ z) ≤ℤ (y +ℤ w)
add_mono x y z w h k = omega (arith, ints)

pub add-zero_right : (x : ℤ) → x +ℤ pos 0 ≡ x
add-zero_right x = omega (arith, ints)

pub add_zero_left : (x : ℤ) → pos 0 +ℤ x ≡ x
add_zero_left x = omega (arith, ints)

pub add_swap : (x y : ℤ) → x +ℤ y ≡ y +ℤ x
add_swap x y = omega (arith, ints)

pub add_group : (x y z : ℤ) → (x +ℤ y) +ℤ z ≡ x +ℤ (y +ℤ z)
add_group x y z = omega (arith, ints)
