-- Halves rounded down, and even bounds.
use Rattle.std.proofs.Common.{◌≡◌, ℤ, pos, negsuc, ◌≤ℤ◌, ◌+ℤ◌, arith}
use Rattle.std.proofs.lemmas.Int.{ints}
use Rattle.std.specs.Int.{int_div_euclid, int_rem_euclid}
use Rattle.sa_numbers.specs.Halves.{half, even_below}

-- z lies from twice its half to one above
pub even_below-low : (z : ℤ) → even_below z ≤ℤ z
even_below-low (pos n) = omega (arith, ints)
even_below-low (negsuc n) = omega (arith, ints)

pub even_below-near : (z : ℤ) → z ≤ℤ (even_below z +ℤ pos 1)
even_below-near (pos n) = omega (arith, ints)
even_below-near (negsuc n) = omega (arith, ints)

-- no number above the half has its double at most z
pub half-greatest : (x z : ℤ) → (x +ℤ x) ≤ℤ z → x ≤ℤ half z
half-greatest x z h = let near = even_below-near z in omega (arith, ints)

pub half-monotone : (x y : ℤ) → x ≤ℤ y → half x ≤ℤ half y
half-monotone x y h = half-greatest (half x) y (let low = even_below-low x in omega (arith, ints))

pub half-double : (x : ℤ) → half (x +ℤ x) ≡ x
half-double x =
    let low = even_below-low (x +ℤ x) in
    let near = even_below-near (x +ℤ x) in
    omega (arith, ints)

-- an even number at most z is at most the even number below z
pub even_below-greatest : (x z : ℤ) → (x +ℤ x) ≤ℤ z → (x +ℤ x) ≤ℤ even_below z
even_below-greatest x z h = let most = half-greatest x z h in omega (arith, ints)

pub even_below-monotone : (x y : ℤ) → x ≤ℤ y → even_below x ≤ℤ even_below y
even_below-monotone x y h = let half = half-monotone x y h in omega (arith, ints)

pub half-even_below : (z : ℤ) → half (even_below z) ≡ half z
half-even_below z = half-double (half z)

-- two numbers whose doubles are bounded: their sum is at most the sum of the halves
pub sum_of_halves : (x y c d : ℤ) → (x +ℤ x) ≤ℤ c → (y +ℤ y) ≤ℤ d → (x +ℤ y) ≤ℤ (half c +ℤ half d)
sum_of_halves x y c d h k =
    let first = half-greatest x c h in
    let second = half-greatest y d k in
    omega (arith, ints)

-- `div_euclid(2)` rounds down too
pub half-euclid : (z : ℤ) → int_div_euclid z (pos 2) ≡ half z
half-euclid (pos n) = omega (arith, ints)
half-euclid (negsuc n) = omega (arith, ints)

-- what is left of z at its even bound
pub even_below-rem : (z : ℤ) → (even_below z +ℤ int_rem_euclid z (pos 2)) ≡ z
even_below-rem (pos n) = omega (arith, ints)
even_below-rem (negsuc n) = omega (arith, ints)
