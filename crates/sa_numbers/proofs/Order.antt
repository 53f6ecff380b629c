-- The order of whole numbers, beyond what `omega` reads at once.
use Rattle.std.proofs.Common.{◌<ℤ◌, true, false, ℤ, ◌≡◌, ◌≤ℤ◌, arith}
use Rattle.std.proofs.lemmas.Int.{ints}
use Rattle.std.specs.Int.RustNames.{int_le, int_lt}

pub ≤ℤ_refl : (x : ℤ) → x ≤ℤ x
≤ℤ_refl x = omega (arith, ints)

pub ≤ℤ_trans : (x y z : ℤ) → x ≤ℤ y → y ≤ℤ z → x ≤ℤ z
≤ℤ_trans x y z h k = omega (arith, ints)

pub ≤ℤ_antisym : (x y : ℤ) → x ≤ℤ y → y ≤ℤ x → x ≡ y
≤ℤ_antisym x y h k = omega (arith, ints)

-- what the tests `<=` and `<` say
pub le_from : (x y : ℤ) → int_le x y ≡ true → x ≤ℤ y
le_from x y h = grind (arith, ints)

pub le_to : (x y : ℤ) → x ≤ℤ y → int_le x y ≡ true
le_to x y h = grind (arith, ints)

pub above_from : (x y : ℤ) → int_le x y ≡ false → y <ℤ x
above_from x y h = grind (arith, ints)

pub above_to : (x y : ℤ) → y <ℤ x → int_le x y ≡ false
above_to x y h = grind (arith, ints)

pub lt_from : (x y : ℤ) → int_lt x y ≡ true → x <ℤ y
lt_from x y h = grind (arith, ints)

pub lt_to : (x y : ℤ) → x <ℤ y → int_lt x y ≡ true
lt_to x y h = grind (arith, ints)

pub not_lt_from : (x y : ℤ) → int_lt x y ≡ false → y ≤ℤ x
not_lt_from x y h = grind (arith, ints)
