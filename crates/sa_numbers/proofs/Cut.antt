-- What the cut keeps.
use Rattle.std.proofs.Common.{ℤ, ◌≡◌, ◌≤ℤ◌, arith}
use Rattle.std.proofs.lemmas.Int.{ints, clamps}
use Rattle.sa_numbers.specs.Cut.{cut, low_limit, high_limit}

pub cut-monotone : (x y : ℤ) → x ≤ℤ y → cut x ≤ℤ cut y
cut-monotone x y h = omega (arith, ints, clamps)

pub cut-low : (x : ℤ) → low_limit ≤ℤ cut x
cut-low x = omega (arith, ints, clamps)

pub cut-high : (x : ℤ) → cut x ≤ℤ high_limit
cut-high x = omega (arith, ints, clamps)

pub cut-inside : (x : ℤ) → low_limit ≤ℤ x → x ≤ℤ high_limit → cut x ≡ x
cut-inside x low high = omega (arith, ints, clamps)
